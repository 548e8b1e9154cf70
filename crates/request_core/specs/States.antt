-- What the fold over a stream keeps of the units before (ITU-T H.264, 7.4.1.2.1, 7.4.3, 8.2.1 and
-- 8.2.5).
use Rattle.std.specs.Prelude.{ℕ, List, map, Option, None}
use Rattle.h264_types.specs.declared.param_sets.sps.Sps.{Sps}
use Rattle.slice_decoding.specs.declared.order_count.anchors.Anchor.{Anchor}
use Rattle.slice_decoding.specs.Anchors.{no_pictures}
use Rattle.h264_types.specs.MarkedFrames.{Marked, no_frames}
use Rattle.slice_reading.specs.ParameterSets.{ParameterSets, no_sets}

-- the parameter sets, the set of the last IDR picture, what counting keeps, PrevRefFrameNum, and
-- the marked frames
pub record FoldState : Type 0 where
  pub tables : ParameterSets
  pub active : Option Sps
  pub anchor : Anchor
  pub prev_ref_frame_num : ℕ
  pub marks : Marked

-- before the first unit
abbrev pub no_units : FoldState
no_units = record { tables = no_sets; active = None; anchor = no_pictures; prev_ref_frame_num = 0; marks = no_frames }

-- the ids of the marked frames, in decode order
abbrev pub marked_ids : FoldState → List ℕ
marked_ids state = map (λ frame. frame.id) state.marks.frames
