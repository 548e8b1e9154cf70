use Rattle.expgolomb.proofs.FieldLaws.{fixed_value, fixed_cut}
use Rattle.expgolomb.proofs.fields.fixed.Goals as goal

pub returns-in-Ok-clause-exact : goal.returns-in-Ok-clause-exact
returns-in-Ok-clause-exact g c = fixed_value c.args.n c.args.cut c.args.bits.now c.in-Ok.v c.fixed.new.self c.in-Ok.ensures.exact

pub returns-in-Err-clause-exact : goal.returns-in-Err-clause-exact
returns-in-Err-clause-exact g c = fixed_cut c.args.n c.args.cut c.args.bits.now c.in-Err.field-0 c.in-Err.ensures.exact.0
