-- What an access unit keeps beside its NAL units, and what answers for one NAL unit more.
use Rattle.std.specs.Prelude.{◌≡◌, ◌⊎◌, ℕ, List, Option, None, Some, Result, Ok, Err, if◌then◌else◌}
use Rattle.std.specs.List.{filter}
use Rattle.std.specs.Global.{Vec}
use Rattle.annexb.specs.NalUnit.{is_slice}
use Rattle.access_unit.specs.declared.refused.Refused.{Refused}
use Rattle.access_unit.specs.declared.refused.Refused.TheVariants.{Memory}
use Rattle.access_unit.specs.declared.parts.Parts.{Parts}
use Rattle.access_unit.specs.Sets.{sets_of}
use Rattle.access_unit.specs.Answers.{IsAccepted}
use Rattle.annexb.specs.ByteStream.{joined}

-- the NAL unit, if it's a slice
abbrev pub slice_of : List ℕ → Option (List ℕ)
slice_of unit = if is_slice unit then Some unit else None

-- the parts are those of the NAL units
pub record IsStored (units : List (List ℕ)) (parts : Parts) : Type 0 where
  pub nals_are : parts.nals.items ≡ units
  pub slices_are : parts.slices.items ≡ filter is_slice units
  pub sets_are : parts.sets.items ≡ sets_of units

-- the parts are those of an access unit
pub record IsOfUnit (parts : Parts) : Type 0 where
  pub stored : IsStored parts.nals.items parts
  pub accepted : IsAccepted (joined parts.nals.items) parts.nals.items

-- what a check refuses
abbrev pub refusal_in : {A : Type 0} → Result A Refused → Option Refused
refusal_in (Ok passed) = None
refusal_in (Err refused) = Some refused

-- the refusal is the one that is shown, or memory runs out
abbrev pub IsShown : Option Refused → Refused → Type 0
IsShown shown refused = (refused ≡ Memory) ⊎ (shown ≡ Some refused)

-- the NAL units that a text was split into
abbrev pub units_in : Option (Vec (List ℕ)) → Option (List (List ℕ))
units_in None = None
units_in (Some units) = Some units.items
