use Rattle.std.proofs.Common.{◌≡◌, ◌++◌, true, ap, refl}
use Rattle.stream_mending.specs.Segments.{Segment}
use Rattle.stream_mending.specs.Faults.{has_none, is_sound}
use Rattle.stream_mending.specs.Portions.{ended_by, goes_on_in, joint_after}
use Rattle.stream_mending.proofs.Steps.{done_kept, mended_more}
use Rattle.stream_mending.proofs.mending.Mending.keep.Goals as goal

pub add-requires : goal.add-requires
add-requires c = ap has_none c.requires

pub returns : goal.returns
returns c = λ text written said left h.
    let segment : Segment = record { place = c.args.place; unit = c.args.unit.now; zeros = c.args.zeros } in
    let joint = c.joint-joint.result in
    let sound : is_sound segment.unit ≡ true = ap has_none c.requires in
    let is : joint_after h.portion segment ≡ joint = rw (sound, c.joint-joint.ensures h.portion h.so_far.open_is) refl in
    let next = c.in_ok-go_on.ensures text written said h.done h.portion h.so_far in
    mended_more text written said left segment c.args.self.now _ joint h is
    (done_kept text written said (h.done ++ ended_by joint h.portion) (goes_on_in joint h.portion) segment _ _ next
    (c.in_ok-add.ensures (goes_on_in joint h.portion) next.open_is) refl refl c.requires refl)
