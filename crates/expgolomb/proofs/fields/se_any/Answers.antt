use Rattle.std.proofs.Common.{sym, ◌∙◌, rules}
use Rattle.std.proofs.lemmas.Int.{to_z-of_z}
use mir.Val.{SFits}
use mir.Syntax.{w32}
use Rattle.expgolomb.proofs.FieldLaws.{se_number, se_refused}
use Rattle.expgolomb.proofs.fields.se_any.Goals as goal

pub returns-in-Ok-clause-exact : goal.returns-in-Ok-clause-exact
returns-in-Ok-clause-exact g c =
    let fits : SFits w32 c.in-Ok.v = search rules in
    rw (to_z-of_z w32 c.in-Ok.v fits) (se_number c.args.cut c.args.wrong c.args.bits.now c.in-Ok.v c.se.new.self c.in-Ok.ensures.exact)

pub returns-in-Err-clause-exact : goal.returns-in-Err-clause-exact
returns-in-Err-clause-exact g c = se_refused c.args.cut c.args.wrong c.args.bits.now c.in-Err.fault c.in-Err.ensures.exact.0 ∙ sym c.which.ensures
