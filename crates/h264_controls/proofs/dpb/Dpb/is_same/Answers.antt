use Rattle.std.proofs.lemmas.Slice.Eq.{slice_eq-Decides}
use Rattle.h264_controls.proofs.Same.{entry_same}
use Rattle.h264_controls.proofs.dpb.Dpb.is_same.Goals as goal

pub returns : goal.returns
returns c = rw (← c.as_slice.ensures.value, ← c.as_slice-2.ensures.value) (slice_eq-Decides entry_same _ _ _ c.eq.ensures)
