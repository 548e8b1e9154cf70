-- The NAL units of an access unit, as they are stored.
use Rattle.std.specs.Prelude.{◌≡◌, ℕ, ◌≤◌, List, [], length, Option, None, IfSome}
use Rattle.std.specs.List.{filter}
use Rattle.annexb.specs.NalUnit.{is_slice}
use Rattle.annexb.specs.ByteStream.{joined}
use Rattle.access_unit.specs.declared.content.UnitContent.{UnitContent}
use Rattle.access_unit.specs.declared.content.UnitContent.TheVariants.{OneSlice, Several}
use Rattle.access_unit.specs.declared.parameter_sets.ParameterSet.{ParameterSet}
use Rattle.access_unit.specs.Answers.{IsAccepted}
use Rattle.access_unit.specs.Placed.{first_of, slices_among}
use Rattle.access_unit.specs.Sets.{sets_of}

-- the NAL units, in order
abbrev pub nals_in : UnitContent → List (List ℕ)
nals_in (OneSlice nals) = nals
nals_in (Several several) = several.value.nals.items

-- the slices among them
abbrev pub slices_in : UnitContent → List (List ℕ)
slices_in (OneSlice nals) = nals
slices_in (Several several) = slices_among several.value.nals.items several.value.slices

-- the parameter sets among them
abbrev pub sets_in : UnitContent → List ParameterSet
sets_in (OneSlice nals) = []
sets_in (Several several) = several.value.sets.items

-- how many NAL units stand before the first slice, where that is stored
abbrev pub first_place : UnitContent → ℕ
first_place (OneSlice nals) = 0
first_place (Several several) = first_of several.value.slices

-- the text of the NAL units joined, where it is stored
abbrev pub text_in : UnitContent → Option (List ℕ)
text_in (OneSlice nals) = None
text_in (Several several) = several.value.text

-- the content is that of an access unit of these NAL units
pub record IsContentOf (units : List (List ℕ)) (content : UnitContent) : Type 0 where
  pub nals_are : nals_in content ≡ units
  pub slices_are : slices_in content ≡ filter is_slice units
  pub within : first_place content ≤ length units
  pub sets_are : sets_in content ≡ sets_of units
  pub accepted : IsAccepted (joined units) units
  pub text_is : IfSome (text_in content) (λ text. text ≡ joined units)
