-- An access unit of one slice.
use Rattle.std.proofs.Common.{◌≡◌, ℕ, ⊎_elim, true, false, ◌==◌, ◌||◌, List, [], ◌∷◌, Option, None, Some, refl, sym, arith}
use Rattle.std.proofs.lemmas.Bool.{cases_Bool, eqb-true}
use Rattle.std.specs.Option.{option_or}
use Rattle.annexb.specs.NalUnit.{is_slice, nal_unit_type}
use Rattle.annexb.proofs.Readings.{HasUnits-joined}
use Rattle.access_unit.specs.Answers.{IsShortText}
use Rattle.access_unit.specs.UnitContents.{IsContentOf}
use Rattle.access_unit.specs.declared.content.UnitContent.TheVariants.{OneSlice}
use Rattle.access_unit.specs.declared.refused.Refused.{Refused}
use Rattle.access_unit.specs.Refusals.{first_shown, header_rows, set_rows, order_rows, refusal_at, refusal_of}
use Rattle.access_unit.specs.Sets.{sets_of}
use Rattle.access_unit.specs.Stored.{IsShown}
use Rattle.access_unit.proofs.Lengths.{length_joined}
use Rattle.access_unit.proofs.Pieces.{all_units}
use Rattle.access_unit.proofs.Shown.{refusal_at-order}

-- a slice has no parameter set
no_set : (unit_type : ℕ) → (unit_type == 1 || unit_type == 5) ≡ true → ((unit_type == 7) ≡ false) × ((unit_type == 8) ≡ false)
no_set unit_type slice = ⊎_elim
    (λ first. let one : unit_type ≡ 1 = eqb-true unit_type 1 first in rw one (refl, refl))
    (λ other. let five : unit_type ≡ 5 = eqb-true unit_type 5 (rw other at slice) in rw five (refl, refl))
    (cases_Bool (unit_type == 1))

alone : (shown : Option Refused) → option_or shown None ≡ shown
alone None = refl
alone (Some refused) = refl

module _ (unit : List ℕ) where
  -- the refusal of one NAL unit is what it shows after none
  pub refusal_of-one : refusal_of (unit ∷ []) ≡ refusal_at [] unit
  refusal_of-one = alone (refusal_at [] unit)

  pub IsShown-one : (refused : Refused) → IsShown (refusal_at [] unit) refused → IsShown (refusal_of (unit ∷ [])) refused
  IsShown-one refused h = rw refusal_of-one h

  module _ (slice : is_slice unit ≡ true) where
    types : ((nal_unit_type unit == 7) ≡ false) × ((nal_unit_type unit == 8) ≡ false)
    types = no_set (nal_unit_type unit) slice

    no_rows : first_shown (set_rows unit) ≡ None
    unfolding set_rows
    no_rows = rw (types.0, types.1) refl

    -- after its header its order decides
    pub refusal_at-slice : None ≡ first_shown (header_rows unit) → refusal_at [] unit ≡ first_shown (order_rows [] unit)
    refusal_at-slice passed = refusal_at-order [] unit passed [] refl no_rows

    no_sets : sets_of (unit ∷ []) ≡ []
    no_sets = rw (types.0, types.1) refl

    -- and it is kept as it is
    pub IsContentOf-only_slice : (text : List ℕ) → IsShortText text (unit ∷ []) → refusal_of (unit ∷ []) ≡ None
        → IsContentOf (unit ∷ []) (OneSlice (unit ∷ []))
    IsContentOf-only_slice text of sound = record {
      nals_are = refl;
      slices_are = rw slice refl;
      within = omega arith;
      sets_are = sym no_sets;
      accepted = record {
        has = HasUnits-joined (unit ∷ []) of.has.filled (all_units of.has.rest (unit ∷ []) of.has.rest_is);
        short = omega (arith, of.short, length_joined text (unit ∷ []) of.has);
        sound = sound;
      };
      text_is = tt;
    }
