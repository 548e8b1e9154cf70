use Rattle.std.proofs.Common.{rules, not}
use Rattle.arrayvec.proofs.ArrayVecLemmas.{filter-from_retain}
use Rattle.h264_types.specs.MarkedFrames.{holds}
use Rattle.h264_types.specs.declared.pictures.frames.Frame.{Frame}
use Rattle.slice_decoding.proofs.Filters.{with_frames}
use Rattle.slice_decoding.proofs.ref_marking.freeing.take_out_long_term.Goals as goal

pub returns : goal.returns
returns c =
    let left = filter-from_retain _ (λ (frame : Frame). not (holds c.args.long_term_frame_idx frame.term)) _ (λ x b f' y called. search rules) _ _ c.retain.ensures.filtered in
    rw (← c.marks.view_is) (with_frames c.marks.inside.max_long_term_frame_idx left)
