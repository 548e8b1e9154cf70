use Rattle.expgolomb.specs.Grammar.{Fixed}
use Rattle.expgolomb.specs.Ranges.{at_most}
use Rattle.expgolomb.proofs.FieldLaws.{fixed_within, fixed_above, fixed_cut, narrow_err}
use Rattle.expgolomb.proofs.fields.fixed_at_most.Goals as goal

pub returns-in-Ok-clause-exact : goal.returns-in-Ok-clause-exact
returns-in-Ok-clause-exact g c = fixed_within c.args.n c.args.most c.args.cut c.args.wrong c.args.bits.now c.in-Ok.v c.fixed.new.self c.in-Ok.ensures.exact c.if-v-most.true

pub returns-in-Ok-2-clause-exact : goal.returns-in-Ok-2-clause-exact
returns-in-Ok-2-clause-exact g c = fixed_above c.args.n c.args.most c.args.cut c.args.wrong c.args.bits.now c.in-Ok.v c.fixed.new.self c.in-Ok.ensures.exact c.if-v-most.false

pub returns-clause-exact : goal.returns-clause-exact
returns-clause-exact g c = narrow_err (Fixed c.args.n) c.args.cut c.args.cut (at_most c.args.most c.args.wrong) c.args.bits.now c.args.cut (fixed_cut c.args.n c.args.cut c.args.bits.now c.in-Err.field-0 c.in-Err.ensures.exact.0)
