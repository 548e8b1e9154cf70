-- The fold over a stream (ITU-T H.264, 8.2): one step of it, and all.
use Rattle.std.specs.Prelude.{ℕ, ◌||◌, List, [], ◌∷◌, map, filter, Option, None, Some, Result, Ok, Err, if◌then◌else◌, ⊤}
use Rattle.annexb.specs.NalUnit.{is_slice}
use Rattle.h264_types.specs.Chains.{◌>>=◌}
use Rattle.access_unit.specs.Sets.{sets_of}
use Rattle.h264_types.specs.declared.pictures.counts.Counts.{Counts}
use Rattle.slice_decoding.specs.declared.order_count.counting.OrderRange as counting
use Rattle.slice_decoding.specs.Anchors.{anchor_after_of}
use Rattle.slice_decoding.specs.Counting.{counts_of}
use Rattle.h264_types.specs.Pictures.{is_idr, is_reference}
use Rattle.h264_types.specs.PicOrderCnt.{pic_order_cnt}
use Rattle.h264_types.specs.Resetting.{has_operation_five, counts_after_reset}
use Rattle.slice_decoding.specs.declared.ref_marking.fault.MarkFault.{MarkFault}
use Rattle.slice_decoding.specs.declared.ref_marking.fault.MarkFault.TheVariants as marking
use Rattle.h264_types.specs.MarkedFrames.{Marked}
use Rattle.slice_decoding.specs.MarksAfter.{marks_after}
use Rattle.slice_decoding.specs.declared.ref_lists.fault.ListFault.{ListFault}
use Rattle.slice_decoding.specs.declared.ref_lists.fault.ListFault.TheVariants as listing
use Rattle.slice_decoding.specs.ReferenceLists.{lists_of}
use Rattle.unit_outcomes.specs.declared.validity_fault.ValidityFault.{ValidityFault}
use Rattle.unit_outcomes.specs.declared.validity_fault.ValidityFault.TheVariants.{OrderRange, OrderTie, NoReference, BadModification, BadMarking, TooManyReferences}
use Rattle.unit_outcomes.specs.declared.outcome.Plan.{Plan}
use Rattle.unit_outcomes.specs.declared.outcome.Outcome.{Outcome}
use Rattle.unit_outcomes.specs.declared.outcome.Outcome.TheVariants as outcomes
use Rattle.slice_reading.specs.ParameterSets.{put_all}
use Rattle.request_core.specs.States.{FoldState, no_units}
use Rattle.slice_reading.specs.Numbers.{gathered}
use Rattle.slice_reading.specs.Slices.{SliceRead, slice_at}
use Rattle.slice_reading.specs.Faults.{first_shown, slice_rows}
use Rattle.request_core.specs.Faults.{picture_rows}
use Rattle.request_core.specs.Requests.{ListedSlice, requests_of}

-- nothing, or the fault that is shown
abbrev pub passes : Option ValidityFault → Result ⊤ ValidityFault
passes None = Ok record {}
passes (Some fault) = Err fault

-- the counts, or the fault of having none
abbrev pub counted : Result Counts counting.OrderRange → Result Counts ValidityFault
counted (Ok counts) = Ok counts
counted (Err range) = Err OrderRange

-- the fault of having no lists
abbrev pub list_fault : ListFault → ValidityFault
list_fault listing.OrderTie = OrderTie
list_fault listing.NoReference = NoReference
list_fault listing.BadModification = BadModification

-- the slice with its lists, or the fault of having none
abbrev pub with_lists : SliceRead → Result (List (Option ℕ) × List (Option ℕ)) ListFault → Result ListedSlice ValidityFault
with_lists slice (Ok lists) = Ok (record { slice = slice; list_0 = lists.0; list_1 = lists.1 })
with_lists slice (Err fault) = Err (list_fault fault)

abbrev pub listed : Marked → Counts → SliceRead → Result ListedSlice ValidityFault
listed marks counts slice = with_lists slice (lists_of marks slice.sps slice.header counts)

-- the frames that are marked after the picture, or the fault of its marking
abbrev pub marked : Result Marked MarkFault → Result Marked ValidityFault
marked (Ok marks) = Ok marks
marked (Err marking.TooManyReferences) = Err TooManyReferences
marked (Err fault) = Err BadMarking

-- the frame_num that the next picture has to follow (7.4.3)
abbrev pub next_ref_frame_num : FoldState → SliceRead → ℕ
next_ref_frame_num state slice =
    if is_reference slice.header then (if has_operation_five slice.header then 0 else slice.header.frame_num)
    else state.prev_ref_frame_num

-- the state after a picture
abbrev pub state_after : FoldState → SliceRead → Counts → Marked → FoldState
state_after state slice counts marks = record {
  tables = state.tables;
  active = if is_idr slice.header then Some slice.sps else state.active;
  anchor = anchor_after_of state.anchor slice.sps slice.header counts;
  prev_ref_frame_num = next_ref_frame_num state slice;
  marks = marks;
}

-- the plan of a picture
abbrev pub plan_of : FoldState → ℕ → SliceRead → Counts → List ListedSlice → Plan
plan_of state id first counts slices = record {
  requests = requests_of state.marks.frames counts id slices;
  counts = counts;
  order = pic_order_cnt (counts_after_reset first.header counts);
  begins_period = is_idr first.header || has_operation_five first.header;
}

-- what a picture leads to whose slices agree: the state after it and its plan, or the first fault
unfoldable pub picture_after : FoldState → ℕ → SliceRead → List SliceRead → Result (FoldState × Outcome) ValidityFault
picture_after state id first slices =
    passes (first_shown (picture_rows state first.sps first.header)) >>= λ passed.
    counted (counts_of state.anchor first.sps first.header) >>= λ counts.
    gathered (map (listed state.marks counts) slices) >>= λ slices.
    marked (marks_after state.marks id first.sps first.header counts) >>= λ marks.
    Ok (state_after state first counts marks, outcomes.Plan (plan_of state id first counts slices))

-- slices make a picture; a unit without any has none, and leaves the state as it was
abbrev pub picture_of : FoldState → ℕ → List SliceRead → Result (FoldState × Outcome) ValidityFault
picture_of state id [] = Ok (state, outcomes.Empty)
picture_of state id (first ∷ others) =
    passes (first_shown (slice_rows first others)) >>= λ passed. picture_after state id first (first ∷ others)

-- the state in which a unit's sets are put
abbrev pub with_sets : FoldState → List (List ℕ) → FoldState
with_sets state unit = record state { tables = put_all state.tables (sets_of unit) }

-- what a state leads to in which the sets of the unit are put
abbrev pub planned : FoldState → ℕ → List (List ℕ) → Result (FoldState × Outcome) ValidityFault
planned state id unit =
    gathered (map (slice_at state.tables) (filter is_slice unit)) >>= picture_of state id

-- a unit with a fault leaves all but its sets as it was
abbrev pub outcome_of : FoldState → Result (FoldState × Outcome) ValidityFault → FoldState × Outcome
outcome_of state (Ok planned) = planned
outcome_of state (Err fault) = (state, outcomes.Fault fault)

-- one step: the state after a unit, and the unit's outcome
unfoldable pub fold_step : FoldState → ℕ → List (List ℕ) → FoldState × Outcome
fold_step state id unit = outcome_of (with_sets state unit) (planned (with_sets state unit) id unit)

-- the outcomes of the units after a state, each with its id
abbrev pub outcomes_from : FoldState → List (ℕ × List (List ℕ)) → List Outcome
outcomes_from state [] = []
outcomes_from state (unit ∷ units) =
    (fold_step state unit.0 unit.1).1 ∷ outcomes_from (fold_step state unit.0 unit.1).0 units

-- the outcomes of a stream
abbrev pub outcomes_of : List (ℕ × List (List ℕ)) → List Outcome
outcomes_of stream = outcomes_from no_units stream
