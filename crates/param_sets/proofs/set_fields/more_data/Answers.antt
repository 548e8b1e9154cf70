use Rattle.std.proofs.Common.{◌≡◌, ◌↔◌, Bool, true, false, Ok, pos, refl, ap, inl, inr}
use Rattle.std.proofs.lemmas.Bool.{false≢true}
use Rattle.expgolomb.specs.Bits.{Place}
use Rattle.expgolomb.specs.Codes.{HasMoreData}
use Rattle.param_sets.specs.declared.fault.SetFault.TheVariants.{Cut}
use Rattle.expgolomb.specs.Answer.{flag_value}
use Rattle.expgolomb.specs.Grammar.{MoreData}
use Rattle.expgolomb.specs.Ranges.{any}
use Rattle.expgolomb.specs.TableReading.{checked, value_at}
use Rattle.expgolomb.proofs.Tables.{code_only}
use Rattle.param_sets.proofs.set_fields.more_data.Goals as goal

-- the answer as a value
answered : (p : Place) (more : Bool) → ((more ≡ true) ↔ HasMoreData p) → value_at MoreData Cut Cut any p ≡ Ok (flag_value more, p)
unfolding value_at
answered p true says = ap (checked Cut Cut any) (code_only MoreData p (pos 1) p (refl, inl (says.0 refl, refl)))
answered p false says =
    ap (checked Cut Cut any) (code_only MoreData p (pos 0) p (refl, inr (λ h. absurd (false≢true (says.1 h)), refl)))

pub returns : goal.returns
returns c = answered c.args.bits.now c.more_data.result c.more_data.ensures
