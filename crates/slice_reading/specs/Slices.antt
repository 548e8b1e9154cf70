-- The slices of a unit, each with its header, or the fault that a header shows (ITU-T H.264, 7.3.3
-- and 7.4.1.2.1).
use Rattle.std.specs.Prelude.{ℕ, List, Option, None, Some, Result, Ok, Err}
use Rattle.h264_types.specs.declared.param_sets.sps.Sps.{Sps}
use Rattle.h264_types.specs.declared.param_sets.pps.Pps.{Pps}
use Rattle.slice_header.specs.declared.fault.HeaderFault.{HeaderFault}
use Rattle.slice_header.specs.declared.fault.HeaderFault.TheVariants as headers
use Rattle.slice_header.specs.declared.front.HeaderFront.{HeaderFront}
use Rattle.h264_types.specs.declared.slice_headers.slice_headers.SliceHeader.{SliceHeader}
use Rattle.slice_header.specs.Fronts.{front_at}
use Rattle.slice_header.specs.SliceHeaders.{header_at}
use Rattle.unit_outcomes.specs.declared.validity_fault.ValidityFault.{ValidityFault}
use Rattle.unit_outcomes.specs.declared.validity_fault.ValidityFault.TheVariants as faults
use Rattle.slice_reading.specs.ParameterSets.{ParameterSets, sps_under, pps_under}

-- the parameter sets that a slice names
pub record NamedSets : Type 0 where
  pub sps : Sps
  pub pps : Pps

-- a slice: its NAL unit, the parameter sets that it names, and its header
pub record SliceRead : Type 0 where
  pub nal : List ℕ
  pub sps : Sps
  pub pps : Pps
  pub header : SliceHeader

-- the fault of a header
abbrev pub header_fault : HeaderFault → ValidityFault
header_fault headers.Cut = faults.HeaderCut
header_fault fault = faults.HeaderValue

-- the slice by its header
abbrev pub with_header : List ℕ → Sps → Pps → Result SliceHeader HeaderFault → Result SliceRead ValidityFault
with_header nal sps pps (Ok header) = Ok (record { nal = nal; sps = sps; pps = pps; header = header })
with_header nal sps pps (Err fault) = Err (header_fault fault)

-- the slice by the sets that it names
abbrev pub with_sps : List ℕ → Pps → Option Sps → Result SliceRead ValidityFault
with_sps nal pps None = Err faults.MissingSps
with_sps nal pps (Some sps) = with_header nal sps pps (header_at nal sps pps)

abbrev pub with_pps : ParameterSets → List ℕ → Option Pps → Result SliceRead ValidityFault
with_pps tables nal None = Err faults.MissingPps
with_pps tables nal (Some pps) = with_sps nal pps (sps_under tables pps.seq_parameter_set_id)

-- the slice by the prefix of its header
abbrev pub with_front : ParameterSets → List ℕ → Result HeaderFront HeaderFault → Result SliceRead ValidityFault
with_front tables nal (Ok front) = with_pps tables nal (pps_under tables front.pic_parameter_set_id)
with_front tables nal (Err fault) = Err (header_fault fault)

-- the slice of a NAL unit, or the fault that it shows
unfoldable pub slice_at : ParameterSets → List ℕ → Result SliceRead ValidityFault
slice_at tables nal = with_front tables nal (front_at nal)
