-- The header of a slice that is read is the one that stands in its NAL unit.
use Rattle.std.proofs.Common.{◌≡◌, ℕ, true, false, List, Option, None, Some, Result, Ok, Err, refl, subst}
use Rattle.h264_types.specs.declared.param_sets.sps.Sps.{Sps}
use Rattle.h264_types.specs.declared.param_sets.pps.Pps.{Pps}
use Rattle.h264_types.specs.declared.slice_headers.slice_headers.SliceHeader.{SliceHeader}
use Rattle.h264_types.specs.Pictures.{is_idr}
use Rattle.slice_header.specs.declared.fault.HeaderFault.{HeaderFault}
use Rattle.slice_header.specs.declared.front.HeaderFront.{HeaderFront}
use Rattle.slice_header.specs.Fronts.{front_at}
use Rattle.slice_header.specs.SliceHeaders.{header_at}
use Rattle.slice_decoding.specs.ReferenceLists.{has_list_0}
use Rattle.slice_reading.specs.ParameterSets.{ParameterSets, sps_under, pps_under}
use Rattle.slice_reading.specs.Slices.{SliceRead, with_header, with_sps, with_pps, with_front, slice_at}
use Rattle.stream_fold.proofs.IntraSlices.{IsAllowed, idr_without_lists}

-- the header stands in the NAL unit
abbrev IsFrom : List ℕ → SliceRead → Type 0
IsFrom nal slice = header_at nal slice.sps slice.pps ≡ Ok slice.header

by_header : (nal : List ℕ) (sps : Sps) (pps : Pps) (read : Result SliceHeader HeaderFault) (slice : SliceRead) → header_at nal sps pps ≡ read
    → with_header nal sps pps read ≡ Ok slice → IsFrom nal slice
by_header nal sps pps (Ok header) slice stands is =
    let same : record { nal = nal; sps = sps; pps = pps; header = header } ≡ slice = cc in
    subst (IsFrom nal) same stands
by_header nal sps pps (Err fault) slice stands is = absurd cc

by_sps : (nal : List ℕ) (pps : Pps) (sps : Option Sps) (slice : SliceRead) → with_sps nal pps sps ≡ Ok slice → IsFrom nal slice
by_sps nal pps None slice is = absurd cc
by_sps nal pps (Some sps) slice is = by_header nal sps pps (header_at nal sps pps) slice refl is

by_pps : (tables : ParameterSets) (nal : List ℕ) (pps : Option Pps) (slice : SliceRead) → with_pps tables nal pps ≡ Ok slice → IsFrom nal slice
by_pps tables nal None slice is = absurd cc
by_pps tables nal (Some pps) slice is = by_sps nal pps (sps_under tables pps.seq_parameter_set_id) slice is

by_front : (tables : ParameterSets) (nal : List ℕ) (front : Result HeaderFront HeaderFault) (slice : SliceRead)
    → with_front tables nal front ≡ Ok slice → IsFrom nal slice
by_front tables nal (Ok front) slice is = by_pps tables nal (pps_under tables front.pic_parameter_set_id) slice is
by_front tables nal (Err fault) slice is = absurd cc

slice_is_from : (tables : ParameterSets) (nal : List ℕ) (slice : SliceRead) → slice_at tables nal ≡ Ok slice → IsFrom nal slice
unfolding slice_at
slice_is_from tables nal slice is = by_front tables nal (front_at nal) slice is

-- a slice that has no list where its picture is IDR
abbrev pub IsIntraInIdr : SliceRead → Type 0
IsIntraInIdr slice = is_idr slice.header ≡ true → has_list_0 slice.header.slice_type ≡ false

-- so are the slices of NAL units that aren't refused
pub read_allowed : (tables : ParameterSets) (nal : List ℕ) (slice : SliceRead) → IsAllowed nal → slice_at tables nal ≡ Ok slice → IsIntraInIdr slice
read_allowed tables nal slice allowed is =
    idr_without_lists nal slice.sps slice.pps slice.header allowed (slice_is_from tables nal slice is)
