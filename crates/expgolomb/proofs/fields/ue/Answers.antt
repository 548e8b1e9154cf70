use Rattle.std.proofs.Common.{sym, ◌∙◌}
use Rattle.expgolomb.proofs.FieldLaws.{ue_value, ue_above, ue_fault}
use Rattle.expgolomb.proofs.fields.ue.Goals as goal

pub returns-in-Ok-clause-exact : goal.returns-in-Ok-clause-exact
returns-in-Ok-clause-exact g c = ue_value c.args.most c.args.cut c.args.wrong c.args.bits.now c.in-Ok.v c.ue.new.self c.in-Ok.ensures.exact c.if-v-most.true

pub returns-in-Ok-2-clause-exact : goal.returns-in-Ok-2-clause-exact
returns-in-Ok-2-clause-exact g c = ue_above c.args.most c.args.cut c.args.wrong c.args.bits.now c.in-Ok.v c.ue.new.self c.in-Ok.ensures.exact c.if-v-most.false

pub returns-clause-exact : goal.returns-clause-exact
returns-clause-exact g c = ue_fault c.args.most c.args.cut c.args.wrong c.args.bits.now c.in-Err.fault c.in-Err.ensures.exact.0 ∙ sym c.which.ensures
