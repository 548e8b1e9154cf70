-- The slices and the parameter sets of NAL units, and of one more.
use Rattle.std.proofs.Common.{◌≡◌, ℕ, ⊎_elim, List, [], ◌∷◌, ◌++◌, Option, None, Some, refl}
use Rattle.std.proofs.lemmas.Bool.{cases_Bool}
use Rattle.std.proofs.lemmas.List.Elements.{filter-append, filter_map-append}
use Rattle.std.specs.List.{filter, cons_option}
use Rattle.std.specs.Option.{option_to_list}
use Rattle.annexb.specs.NalUnit.{is_slice}
use Rattle.access_unit.specs.declared.parameter_sets.ParameterSet.{ParameterSet}
use Rattle.access_unit.specs.Sets.{set_of, sets_of}
use Rattle.access_unit.specs.Stored.{slice_of}

one_slice : (unit : List ℕ) → filter is_slice (unit ∷ []) ≡ option_to_list (slice_of unit)
one_slice unit = ⊎_elim (λ slice. rw slice refl) (λ other. rw other refl) (cases_Bool (is_slice unit))

one_set : (set : Option ParameterSet) → cons_option set [] ≡ option_to_list set
one_set (Some set) = refl
one_set None = refl

module _ (units : List (List ℕ)) (unit : List ℕ) where
  pub slices-more : (slices : List (List ℕ)) → slices ≡ filter is_slice units
      → slices ++ option_to_list (slice_of unit) ≡ filter is_slice (units ++ unit ∷ [])
  slices-more slices known = rw (filter-append, known, one_slice) refl

  pub sets-more : (sets : List ParameterSet) → sets ≡ sets_of units
      → sets ++ option_to_list (set_of unit) ≡ sets_of (units ++ unit ∷ [])
  sets-more sets known = rw (filter_map-append, known, one_set (set_of unit)) refl
