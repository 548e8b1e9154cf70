-- The units of a stream that have no valid picture, and why.
use Rattle.std.specs.Prelude.{ℕ, ◌+◌, ◌%◌, ◌==◌, ◌++◌, Bool, List, [], ◌∷◌, map, filter, Result, Ok, Err, if◌then◌else◌}
use Rattle.annexb.specs.NalUnit.{is_slice}
use Rattle.h264_controls.specs.declared.request.Request.{Request}
use Rattle.h264_types.specs.FrameNumbers.{max_frame_num}
use Rattle.unit_outcomes.specs.Numbers.{number_of}
use Rattle.unit_outcomes.specs.declared.outcome.Outcome.{Outcome}
use Rattle.unit_outcomes.specs.declared.outcome.Outcome.TheVariants as outcome
use Rattle.unit_outcomes.specs.declared.outcome.Plan.{Plan}
use Rattle.unit_outcomes.specs.declared.validity_fault.ValidityFault.{ValidityFault}
use Rattle.unit_outcomes.specs.declared.validity_fault.ValidityFault.TheVariants.{FrameNumGap}
use Rattle.slice_reading.specs.Numbers.{gathered}
use Rattle.slice_reading.specs.ParameterSets.{ParameterSets}
use Rattle.slice_reading.specs.Slices.{SliceRead, slice_at}
use Rattle.request_core.specs.Fold.{fold_step, with_sets}
use Rattle.request_core.specs.States.{FoldState}
use Rattle.stream_reasons.specs.declared.reason.Reason.{Reason}
use Rattle.stream_reasons.specs.declared.reason.Reason.TheVariants as reason
use Rattle.stream_check.specs.declared.problems.Problem.{Problem}

-- whether pictures are missing
abbrev pub is_gap : ValidityFault → Bool
is_gap fault = number_of fault == number_of FrameNumGap

-- frame_num of the first slice, and which was expected where PrevRefFrameNum is this number (7.4.3)
abbrev pub gap_before : ℕ → ValidityFault → List SliceRead → Reason
gap_before last fault [] = reason.Fault fault
gap_before last fault (slice ∷ _) = reason.FrameNumGap slice.header.frame_num last ((last + 1) % max_frame_num slice.sps)

-- the same of slices that were read
abbrev pub gap_in : ℕ → ValidityFault → Result (List SliceRead) ValidityFault → Reason
gap_in last fault (Ok slices) = gap_before last fault slices
gap_in last fault (Err _) = reason.Fault fault

-- why a unit with this fault isn't valid, with these parameter sets and this PrevRefFrameNum
abbrev pub reason_in : ParameterSets → ℕ → List (List ℕ) → ValidityFault → Reason
reason_in tables last unit fault =
    if is_gap fault then gap_in last fault (gathered (map (slice_at tables) (filter is_slice unit))) else reason.Fault fault

-- why a unit with this fault isn't valid after units that lead to this state of the fold
abbrev pub reason_at : FoldState → List (List ℕ) → ValidityFault → Reason
reason_at state unit fault = reason_in (with_sets state unit).tables state.prev_ref_frame_num unit fault

-- the problem of the unit of an id, if it has one, which has this reason
abbrev pub problem_at : ℕ → (ValidityFault → Reason) → Outcome → List Problem
problem_at id why (outcome.Plan _) = []
problem_at id why (outcome.Fault fault) = record { unit = id; fault = fault; reason = why fault } ∷ []
problem_at id why outcome.Empty = []

-- those of units with ids from this one on, after units that lead to this state, each once and in order
abbrev pub problems_from : FoldState → ℕ → List (List (List ℕ)) → List Problem
problems_from state id [] = []
problems_from state id (unit ∷ units) =
    problem_at id (reason_at state unit) (fold_step state id unit).1 ++ problems_from (fold_step state id unit).0 (id + 1) units

-- PrevRefFrameNum after a picture of these requests: it counts as 0 where output order begins anew (7.4.3)
abbrev pub last_after_slices : ℕ → Bool → List Request → ℕ
last_after_slices before begins [] = before
last_after_slices before begins (request ∷ _) = if request.body.controls.decode_params.nal_ref_idc == 0 then before
    else if begins then 0 else request.body.controls.decode_params.frame_num

-- after a valid unit
abbrev pub last_after_plan : ℕ → Plan → ℕ
last_after_plan before plan = last_after_slices before plan.begins_period plan.requests

-- after a unit
abbrev pub last_after : ℕ → Outcome → ℕ
last_after before (outcome.Plan plan) = last_after_plan before plan
last_after before (outcome.Fault _) = before
last_after before outcome.Empty = before
