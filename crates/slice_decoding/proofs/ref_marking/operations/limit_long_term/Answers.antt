use Rattle.std.proofs.Common.{rules, ap, ◌∙◌, ◌≤◌, ℕ, List, Option, Result, Ok}
use Rattle.std.proofs.lemmas.Bool.{le-leb}
use Rattle.arrayvec.proofs.ArrayVecLemmas.{filter-from_retain}
use Rattle.slice_decoding.specs.declared.ref_marking.fault.MarkFault.{MarkFault}
use Rattle.h264_types.specs.declared.pictures.frames.Frame.{Frame}
use Rattle.h264_types.specs.MarkedFrames.{Marked}
use Rattle.slice_decoding.specs.Operations.{is_below}
use Rattle.slice_decoding.specs.MarksAfter.{long_term_limited}
use Rattle.slice_decoding.proofs.Filters.{max_idx_is}
use Rattle.slice_decoding.proofs.StepLaws.{limits_long_term}
use Rattle.slice_decoding.proofs.ref_marking.operations.limit_long_term.Goals as goal

pub returns-clause-exact : goal.returns-clause-exact
unfolding long_term_limited
returns-clause-exact c =
    let left = filter-from_retain _ (λ (frame : Frame). is_below c.args.max_long_term_frame_idx_plus1 frame.term) _ (λ x b f' y called. search rules) _ _ c.retain.ensures.filtered in
    let idx = max_idx_is c.args.max_long_term_frame_idx_plus1 c.checked_sub-marks-inside.result c.checked_sub-marks-inside.ensures in
    let within : c.args.max_long_term_frame_idx_plus1 ≤ c.args.sps.now.max_num_ref_frames = search rules in
    let made : List Frame → Option ℕ → Result Marked MarkFault = λ frames i. Ok (record { frames = frames; max_long_term_frame_idx = i }) in
    rw (← c.marks.view_is, le-leb _ _ within) (ap (λ frames. made frames c.checked_sub-marks-inside.result) left ∙ ap (made _) idx)

pub returns-clause-step : goal.returns-clause-step
returns-clause-step c = limits_long_term c.args.sps.now c.args.max_long_term_frame_idx_plus1 c.args.marks.now _ (returns-clause-exact c)
