-- What keeps NAL units from being an access unit (ITU-T H.264, 7.4.1.2.3, 7.4.1.2.4 and table 7-1).
use Rattle.std.specs.Prelude.{ℕ, ◌==◌, Bool, true, false, not, ◌&&◌, ◌||◌, nat_le, List, [], ◌∷◌, ◌++◌, length, Option, None, Some, Result, if◌then◌else◌}
use Rattle.std.specs.List.{filter}
use Rattle.std.specs.Option.{option_or}
use Rattle.annexb.specs.NalUnit.{nal_unit_type, nal_ref_idc, forbidden_zero_bit, is_slice, begins_at_macroblock_zero}
use Rattle.annexb.specs.AccessUnits.{precedes_slices}
use Rattle.param_sets.specs.declared.fault.SetFault.{SetFault}
use Rattle.h264_types.specs.declared.slice_headers.slice_types.SliceType.{SliceType}
use Rattle.h264_types.specs.declared.slice_headers.slice_types.SliceType.TheVariants as types
use Rattle.slice_header.specs.Fronts.{slice_type_at}
use Rattle.access_unit.specs.declared.refused.Refused.{Refused}
use Rattle.access_unit.specs.declared.refused.Refused.TheVariants.{UnitType, ForbiddenBit, Sps, Pps, Switching, MixedIdr, IdrNotIntra, IdrNotReference, MixedReference, UnitOrder, TwoPictures, TooLarge}
use Rattle.access_unit.specs.Sets.{is_sps, is_pps, sps_of, pps_of, is_unreadable}

-- a refusal, and whether it is shown
abbrev pub Row : Type 0
Row = Refused × Bool

-- the first refusal that is shown
abbrev pub first_shown : List Row → Option Refused
first_shown [] = None
first_shown ((refused, shown) ∷ rows) = if shown then Some refused else first_shown rows

-- data partitions, the types of extensions and of auxiliary pictures, and a type that is reserved
abbrev pub is_refused_type : ℕ → Bool
is_refused_type unit_type =
    (nat_le 2 unit_type && nat_le unit_type 4)
    || (nat_le 13 unit_type && nat_le unit_type 15)
    || (nat_le 19 unit_type && nat_le unit_type 21)

-- by its header
unfoldable pub header_rows : List ℕ → List Row
header_rows unit =
    (UnitType, is_refused_type (nal_unit_type unit))
    ∷ (ForbiddenBit, forbidden_zero_bit unit)
    ∷ []

-- by what its payload is read as, where it has a parameter set
abbrev pub read_rows : {A : Type 0} → Refused → Result A SetFault → List Row
read_rows refused read = (refused, is_unreadable read) ∷ []

-- by its parameter set
unfoldable pub set_rows : List ℕ → List Row
set_rows unit =
    (Sps, is_sps unit && is_unreadable (sps_of unit))
    ∷ (Pps, is_pps unit && is_unreadable (pps_of unit))
    ∷ []

-- slice_type SP or SI
abbrev pub is_switching : Option SliceType → Bool
is_switching (Some types.Sp) = true
is_switching (Some types.Si) = true
is_switching slice_type = false

-- slice_type P or B
abbrev pub is_inter : Option SliceType → Bool
is_inter (Some types.P) = true
is_inter (Some types.B) = true
is_inter slice_type = false

-- nal_unit_type 5: a slice of an IDR picture
abbrev pub is_idr : List ℕ → Bool
is_idr unit = nal_unit_type unit == 5

-- a NAL unit of which no picture takes a reference
abbrev pub is_not_reference : List ℕ → Bool
is_not_reference unit = nal_ref_idc unit == 0

-- both or neither
abbrev pub same : Bool → Bool → Bool
same true second = second
same false second = not second

-- there is a slice
abbrev pub has_slice : List (List ℕ) → Bool
has_slice [] = false
has_slice (first ∷ slices) = true

-- the NAL unit and the first slice aren't both of IDR pictures or both of others
unfoldable pub mixes_idr : List (List ℕ) → List ℕ → Bool
mixes_idr [] unit = false
mixes_idr (first ∷ slices) unit = not (nal_unit_type first == nal_unit_type unit)

-- the NAL unit and the first slice aren't both references or both none
unfoldable pub mixes_reference : List (List ℕ) → List ℕ → Bool
mixes_reference [] unit = false
mixes_reference (first ∷ slices) unit = not (same (is_not_reference first) (is_not_reference unit))

-- by the slices before it
unfoldable pub order_rows : List (List ℕ) → List ℕ → List Row
order_rows slices unit =
    (Switching, is_slice unit && is_switching (slice_type_at unit))
    ∷ (MixedIdr, is_slice unit && mixes_idr slices unit)
    ∷ (IdrNotIntra, is_idr unit && is_inter (slice_type_at unit))
    ∷ (IdrNotReference, is_idr unit && is_not_reference unit)
    ∷ (MixedReference, is_slice unit && mixes_reference slices unit)
    ∷ (UnitOrder, precedes_slices (nal_unit_type unit) && has_slice slices)
    ∷ (TwoPictures, begins_at_macroblock_zero unit && has_slice slices)
    ∷ (TooLarge, is_slice unit && nat_le 256 (length slices))
    ∷ []

-- the least refusal that a NAL unit shows after those before it
unfoldable pub refusal_at : List (List ℕ) → List ℕ → Option Refused
refusal_at before unit =
    first_shown (header_rows unit ++ set_rows unit ++ order_rows (filter is_slice before) unit)

-- the refusal of the first NAL unit that shows one, after those before all of them
abbrev pub first_refusal : List (List ℕ) → List (List ℕ) → Option Refused
first_refusal before [] = None
first_refusal before (unit ∷ units) =
    option_or (refusal_at before unit) (first_refusal (before ++ unit ∷ []) units)

-- the refusal of NAL units: of the first that shows one; they needn't have a slice
abbrev pub refusal_of : List (List ℕ) → Option Refused
refusal_of units = first_refusal [] units

-- how many bytes the text of an access unit has at most
abbrev pub most_bytes : ℕ
most_bytes = 4194304
