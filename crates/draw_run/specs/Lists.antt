-- The frames that the lists of a unit name (8.2.4).
use Rattle.std.specs.Prelude.{◌≢◌, ◌↔◌, ℕ, ◌++◌, Bool, false, Option, None, Some, List, [], Contains, slice_get, option_map, option_and_then}
use Rattle.std.specs.List.{AllPairs, filter_map, flat_map}
use Rattle.h264_controls.specs.declared.request.Request.{Request}
use Rattle.h264_controls.specs.declared.v4l2_ctrl_h264_decode_params.V4l2H264DpbEntry.{V4l2H264DpbEntry}
use Rattle.unit_outcomes.specs.declared.outcome.Outcome.{Outcome}
use Rattle.unit_outcomes.specs.declared.outcome.Outcome.TheVariants.{Plan, Fault, Empty}
use Rattle.stream_svg.specs.declared.unit.DrawnReference.{DrawnReference}
use Rattle.stream_svg.specs.declared.unit.RefList.{RefList}
use Rattle.stream_svg.specs.declared.unit.RefList.TheVariants as lists

-- an entry of the decoded picture buffer is a long-term frame; false where there is none
abbrev pub is_far : Option V4l2H264DpbEntry → Bool
is_far None = false
is_far (Some entry) = entry.flags.long_term

-- the frame at an index of the decoded picture buffer is a long-term one
abbrev pub is_long_term : Request → ℕ → Bool
is_long_term request index = is_far (slice_get request.body.controls.decode_params.dpb index)

-- the frame at an index of the decoded picture buffer, as a list names it
abbrev pub frame_at : Request → RefList → ℕ → Option DrawnReference
frame_at request list index = option_map
    (λ frame. record { list = list; frame = frame; long_term = is_long_term request index })
    (slice_get request.references index)

-- what an entry of a list names
abbrev pub reference_at : Request → RefList → Option ℕ → Option DrawnReference
reference_at request list entry = option_and_then (frame_at request list) entry

-- what the entries of a list name, in order
abbrev pub named_by : Request → RefList → List (Option ℕ) → List DrawnReference
named_by request list entries = filter_map (reference_at request list) entries

-- what the lists of a slice name
abbrev pub named_of : Request → List DrawnReference
named_of request =
    named_by request lists.Zero request.body.controls.slice_params.ref_pic_list0
    ++ named_by request lists.One request.body.controls.slice_params.ref_pic_list1

-- what the lists of a unit name
abbrev pub named_in : Outcome → List DrawnReference
named_in (Plan plan) = flat_map named_of plan.requests
named_in (Fault fault) = []
named_in Empty = []

-- these are all that are named, each once
pub record AreEachOnce (named references : List DrawnReference) : Type 0 where
  pub all : (reference : DrawnReference) → Contains references reference ↔ Contains named reference
  pub once : AllPairs (λ one other. one ≢ other) references
