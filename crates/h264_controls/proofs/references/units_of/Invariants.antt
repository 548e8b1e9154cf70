use Rattle.std.proofs.Common.{◌≡◌, map, take}
use Rattle.h264_types.specs.declared.pictures.frames.Frame.{Frame}
use Rattle.h264_controls.proofs.references.units_of.Given as goal

-- the units of the frames so far
abbrev pub invariant-loop-frame : goal.invariant-loop-frame
invariant-loop-frame l = l.ids.items ≡ map (λ (frame : Frame). frame.id) (take l.frame-index l.frames)
