use Rattle.expgolomb.proofs.FieldLaws.{flag_is, fixed_cut}
use Rattle.expgolomb.proofs.fields.flag.Goals as goal

pub returns-in-Ok-clause-exact : goal.returns-in-Ok-clause-exact
returns-in-Ok-clause-exact g c = flag_is c.args.cut c.args.bits.now c.in-Ok.bit c.bit.new.self c.in-Ok.ensures.exact

pub returns-in-Err-clause-exact : goal.returns-in-Err-clause-exact
returns-in-Err-clause-exact g c = fixed_cut 1 c.args.cut c.args.bits.now c.in-Err.field-0 c.in-Err.ensures.exact.0
