use Rattle.std.proofs.Common.{sym, ◌∙◌}
use Rattle.expgolomb.proofs.FieldLaws.{ue_number, ue_refused}
use Rattle.expgolomb.proofs.fields.ue_any.Goals as goal

pub returns-in-Ok-clause-exact : goal.returns-in-Ok-clause-exact
returns-in-Ok-clause-exact g c = ue_number c.args.cut c.args.wrong c.args.bits.now c.in-Ok.v c.ue.new.self c.in-Ok.ensures.exact

pub returns-in-Err-clause-exact : goal.returns-in-Err-clause-exact
returns-in-Err-clause-exact g c = ue_refused c.args.cut c.args.wrong c.args.bits.now c.in-Err.fault c.in-Err.ensures.exact.0 ∙ sym c.which.ensures
