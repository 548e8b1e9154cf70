use Rattle.std.proofs.Common.{rules, to_z-of_z, SFits, w64, ◌≡◌, length}
use Rattle.h264_types.specs.MarkedFrames.{most_frames}
use Rattle.slice_decoding.proofs.Slides.{slid_at}
use Rattle.slice_decoding.proofs.StepLaws.{slides_window}
use Rattle.slice_decoding.proofs.ref_marking.sliding_window.slide_window.Goals as goal

pub returns-clause-exact : goal.returns-clause-exact
returns-clause-exact c =
    let fits : SFits w64 c.in_ok-least.least = search rules in
    let place = simp to_z-of_z at c.short_term_place-place.ensures in
    let full : length c.args.marks.now.frames ≡ most_frames c.args.sps.now = search rules in
    slid_at c.args.sps.now c.args.frame_num c.args.marks.now _ _ _ _ full c.least_frame_num_wrap.ensures c.in_ok-least.ensures.ok_part place c.take_out.ensures

pub returns-clause-step : goal.returns-clause-step
returns-clause-step c = slides_window c.args.sps.now c.args.frame_num c.args.marks.now _ (returns-clause-exact c)
