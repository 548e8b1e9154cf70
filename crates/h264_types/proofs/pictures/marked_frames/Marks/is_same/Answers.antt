use Rattle.std.proofs.lemmas.Slice.Eq.{slice_eq-Decides}
use Rattle.h264_types.proofs.Same.{frame_same, marked_same}
use Rattle.h264_types.proofs.pictures.marked_frames.Marks.is_same.Goals as goal

pub returns-then-eq : goal.returns-then-eq
returns-then-eq c =
    let frames = slice_eq-Decides frame_same c.self.inside.frames.items c.other.inside.frames.items c.eq-then-eq.result c.eq-then-eq.ensures in
    rw (← c.self.view_is, ← c.other.view_is) (marked_same _ _ _ _ frames c.if-eq.true c.eq.ensures)
