use Rattle.std.proofs.Common.{refl}
use Rattle.stream_mending.specs.Segments.{Segment}
use Rattle.stream_mending.proofs.Steps.{done_left_out, mended_left_out, unsound_fault}
use Rattle.stream_mending.proofs.mending.Mending.leave_out.Goals as goal

pub returns : goal.returns
returns c = λ text written said left h.
    let segment : Segment = record { place = c.args.place; unit = c.args.unit.now; zeros = c.args.zeros } in
    let unsound = unsound_fault c.args.unit.now c.args.why c.requires in
    mended_left_out text written said left segment c.args.self.now _ h unsound
    (done_left_out text written said h.done h.portion segment c.args.self.now _ h.so_far
    (c.in_ok-leave_out.ensures h.portion segment unsound refl h.so_far.open_is) refl refl c.args.why c.requires c.in_ok-tell.ensures)
