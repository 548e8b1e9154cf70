-- The parameter sets of NAL units (ITU-T H.264, 7.3.2.1, 7.3.2.2 and table 7-1).
use Rattle.std.specs.Prelude.{ℕ, ◌==◌, Bool, true, false, List, Option, None, Some, Result, Ok, Err, if◌then◌else◌}
use Rattle.std.specs.List.{filter_map}
use Rattle.annexb.specs.NalUnit.{nal_unit_type}
use Rattle.annexb.specs.EmulationPrevention.{payload_of}
use Rattle.h264_types.specs.declared.param_sets.sps.Sps.{Sps}
use Rattle.h264_types.specs.declared.param_sets.pps.Pps.{Pps}
use Rattle.param_sets.specs.declared.fault.SetFault.{SetFault}
use Rattle.param_sets.specs.Sets.{sps_at, pps_at}
use Rattle.access_unit.specs.declared.parameter_sets.ParameterSet.{ParameterSet}
use Rattle.access_unit.specs.declared.parameter_sets.ParameterSet.TheVariants as sets

-- nal_unit_type 7: a sequence parameter set
abbrev pub is_sps : List ℕ → Bool
is_sps unit = nal_unit_type unit == 7

-- nal_unit_type 8: a picture parameter set
abbrev pub is_pps : List ℕ → Bool
is_pps unit = nal_unit_type unit == 8

-- the sequence parameter set that a NAL unit's payload has, or why it has none
unfoldable pub sps_of : List ℕ → Result Sps SetFault
sps_of unit = sps_at (payload_of unit)

-- the picture parameter set that a NAL unit's payload has, or why it has none
unfoldable pub pps_of : List ℕ → Result Pps SetFault
pps_of unit = pps_at (payload_of unit)

-- a set that isn't read
abbrev pub is_unreadable : {A : Type 0} → Result A SetFault → Bool
is_unreadable (Ok set) = false
is_unreadable (Err fault) = true

-- a set that was read
abbrev pub set_read : {A : Type 0} → (A → ParameterSet) → Result A SetFault → Option ParameterSet
set_read as_set (Ok set) = Some (as_set set)
set_read as_set (Err fault) = None

-- the parameter set of a NAL unit, if it has one
abbrev pub set_of : List ℕ → Option ParameterSet
set_of unit =
    if is_sps unit then set_read sets.Sps (sps_of unit)
    else if is_pps unit then set_read sets.Pps (pps_of unit)
    else None

-- the parameter sets of NAL units, in order
abbrev pub sets_of : List (List ℕ) → List ParameterSet
sets_of units = filter_map set_of units
