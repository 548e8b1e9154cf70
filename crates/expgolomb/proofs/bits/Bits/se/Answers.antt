use Rattle.expgolomb.proofs.Signed.{se_found, se_cut, se_long, se_answer, se_advance}
use Rattle.expgolomb.proofs.bits.Bits.se.Goals as goal

pub returns-clause-found : goal.returns-clause-found
returns-clause-found c = se_found c.take.result c.args.self.now c.take.new.self (rw (← c.se_code-code.ensures) c.take.ensures)

pub returns-clause-cut : goal.returns-clause-cut
returns-clause-cut c = se_cut c.take.result c.args.self.now c.take.new.self (rw (← c.se_code-code.ensures) c.take.ensures)

pub returns-clause-too_long : goal.returns-clause-too_long
returns-clause-too_long c = se_long c.take.result c.args.self.now c.take.new.self (rw (← c.se_code-code.ensures) c.take.ensures)

pub returns-clause-only : goal.returns-clause-only
returns-clause-only c = se_answer c.take.result c.args.self.now c.take.new.self (rw (← c.se_code-code.ensures) c.take.ensures)

pub returns-clause-near : goal.returns-clause-near
returns-clause-near c = se_advance c.take.result c.args.self.now c.take.new.self (rw (← c.se_code-code.ensures) c.take.ensures)
