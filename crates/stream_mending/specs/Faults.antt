-- Why a NAL unit is left out by itself (ITU-T H.264, 7.3.1, 7.4.1, 7.3.3 and table 7-1).
use Rattle.std.specs.Prelude.{ℕ, Bool, true, false, ◌&&◌, ◌||◌, List, [], ◌∷◌, Option, None, Some, if◌then◌else◌}
use Rattle.annexb.specs.Faults.{is_nothing}
use Rattle.annexb.specs.NalUnit.{begins_forbidden, forbidden_zero_bit, nal_unit_type, is_slice}
use Rattle.slice_header.specs.Fronts.{slice_type_at}
use Rattle.access_unit.specs.Refusals.{is_refused_type, is_switching, is_inter, is_idr, is_not_reference}
use Rattle.access_unit.specs.Sets.{is_sps, is_pps, sps_of, pps_of, is_unreadable}
use Rattle.stream_mending.specs.declared.why.Why.{Why}
use Rattle.stream_mending.specs.declared.why.Why.TheVariants.{Empty, ForbiddenBytes, ForbiddenBit, UnitType, UnreadSps, UnreadPps, Switching, IdrNotIntra, IdrNotReference}

-- a sequence that no NAL unit holds begins at one of its places
abbrev pub has_forbidden : List ℕ → Bool
has_forbidden [] = false
has_forbidden (byte ∷ bytes) = begins_forbidden (byte ∷ bytes) || has_forbidden bytes

-- a slice that isn't what its NAL unit's header says, or of a type that isn't read
unfoldable pub slice_fault : List ℕ → Option Why
slice_fault unit =
    if is_slice unit && is_switching (slice_type_at unit) then Some Switching
    else if is_idr unit && is_inter (slice_type_at unit) then Some IdrNotIntra
    else if is_idr unit && is_not_reference unit then Some IdrNotReference
    else None

-- what the header of a NAL unit says against it, or else what follows that
unfoldable pub coded_fault : List ℕ → Option Why
coded_fault unit =
    if forbidden_zero_bit unit then Some ForbiddenBit
    else if is_refused_type (nal_unit_type unit) then Some (UnitType (nal_unit_type unit))
    else if is_sps unit && is_unreadable (sps_of unit) then Some UnreadSps
    else if is_pps unit && is_unreadable (pps_of unit) then Some UnreadPps
    else slice_fault unit

-- the first reason to leave it out, if there is one
unfoldable pub fault_of : List ℕ → Option Why
fault_of unit =
    if is_nothing unit then Some Empty
    else if has_forbidden unit then Some ForbiddenBytes
    else coded_fault unit

-- there is no reason
abbrev pub has_none : Option Why → Bool
has_none None = true
has_none (Some why) = false

-- it isn't left out by itself
abbrev pub is_sound : List ℕ → Bool
is_sound unit = has_none (fault_of unit)
