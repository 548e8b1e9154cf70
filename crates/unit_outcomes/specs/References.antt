-- Whether a unit is of a reference picture, by its NAL units (7.4.1).
use Rattle.std.specs.Prelude.{ℕ, ◌==◌, Bool, false, not, List, [], ◌∷◌}
use Rattle.std.specs.List.{filter}
use Rattle.annexb.specs.NalUnit.{is_slice, nal_ref_idc}

-- whether there is a slice, and nal_ref_idc of the first isn't 0
abbrev pub first_is_reference : List (List ℕ) → Bool
first_is_reference [] = false
first_is_reference (slice ∷ slices) = not (nal_ref_idc slice == 0)

-- whether nal_ref_idc of a unit's first slice isn't 0
abbrev pub is_of_reference : List (List ℕ) → Bool
is_of_reference unit = first_is_reference (filter is_slice unit)
