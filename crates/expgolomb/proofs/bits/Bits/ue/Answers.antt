use Rattle.expgolomb.proofs.ExpGolomb.{ue_found, ue_cut, ue_long, ue_answer, ue_advance}
use Rattle.expgolomb.proofs.bits.Bits.ue.Goals as goal

pub returns-clause-found : goal.returns-clause-found
returns-clause-found c = ue_found c.take.result c.args.self.now c.take.new.self (rw (← c.ue_code-code.ensures.exact) c.take.ensures)

pub returns-clause-cut : goal.returns-clause-cut
returns-clause-cut c = ue_cut c.take.result c.args.self.now c.take.new.self (rw (← c.ue_code-code.ensures.exact) c.take.ensures)

pub returns-clause-too_long : goal.returns-clause-too_long
returns-clause-too_long c = ue_long c.take.result c.args.self.now c.take.new.self (rw (← c.ue_code-code.ensures.exact) c.take.ensures)

pub returns-clause-only : goal.returns-clause-only
returns-clause-only c = ue_answer c.take.result c.args.self.now c.take.new.self (rw (← c.ue_code-code.ensures.exact) c.take.ensures)

pub returns-clause-near : goal.returns-clause-near
returns-clause-near c = ue_advance c.take.result c.args.self.now c.take.new.self (rw (← c.ue_code-code.ensures.exact) c.take.ensures)
