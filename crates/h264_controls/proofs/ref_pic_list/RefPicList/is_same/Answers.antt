use Rattle.std.proofs.lemmas.Slice.Eq.{slice_eq-Decides}
use Rattle.h264_controls.proofs.Same.{index_same}
use Rattle.h264_controls.proofs.ref_pic_list.RefPicList.is_same.Goals as goal

pub returns : goal.returns
returns c = rw (← c.entries.ensures.value, ← c.entries-2.ensures.value) (slice_eq-Decides index_same _ _ _ c.eq.ensures)
