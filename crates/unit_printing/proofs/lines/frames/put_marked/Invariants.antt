use Rattle.std.proofs.Common.{flat_map, string_bytes, take}
use Rattle.unit_printing.specs.Frames.{next_frame_text}
use Rattle.unit_printing.specs.Growing.{Grows}
use Rattle.unit_printing.proofs.lines.frames.put_marked.Given as goal

abbrev pub invariant-loop-frame : goal.invariant-loop-frame
invariant-loop-frame l =
    Grows (string_bytes l.initial.text) (string_bytes l.text) (flat_map (next_frame_text l.sps l.frame_num) (take l.frame-index l.others))
