use Rattle.std.proofs.Common.{◌∙◌, pos, arith}
use Rattle.std.proofs.lemmas.Bool.Decides.{nat_tests}
use Rattle.param_sets.specs.declared.fault.SetFault.TheVariants.{Cut}
use Rattle.expgolomb.specs.Grammar.{Fixed}
use Rattle.param_sets.specs.SpsSyntax.{profile_range}
use Rattle.expgolomb.proofs.FieldLaws.{narrow_ok}
use Rattle.param_sets.proofs.seq_parameter_set.profile_idc.Goals as goal

pub returns-in-66 : goal.returns-in-66
returns-in-66 c =
    let h = c.in-66.is in
    narrow_ok (Fixed 8) Cut Cut profile_range c.args.bits.now (pos c.in_ok-profile.field-0) c.fixed.new.bits c.in_ok-profile.ensures.exact ∙ grind (arith, nat_tests)

pub returns-in_default : goal.returns-in_default
returns-in_default c =
    let h = c.in_default in
    narrow_ok (Fixed 8) Cut Cut profile_range c.args.bits.now (pos c.in_ok-profile.field-0) c.fixed.new.bits c.in_ok-profile.ensures.exact ∙ grind (arith, nat_tests)
