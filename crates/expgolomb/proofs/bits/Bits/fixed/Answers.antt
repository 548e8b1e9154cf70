use Rattle.expgolomb.proofs.ExpGolomb.{fixed-lt}
use Rattle.expgolomb.proofs.bits.Bits.fixed.Goals as goal

pub returns-clause-below : goal.returns-clause-below
returns-clause-below c = fixed-lt c.args.n c.take.result c.args.self.now c.take.new.self (rw (← c.fixed_code-code.ensures) c.take.ensures)
