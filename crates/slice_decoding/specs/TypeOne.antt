-- Type 1: the counts are expected from frame_num by a cycle of offsets, and differences are sent (ITU-T H.264, 8.2.1.2).
use Rattle.std.specs.Prelude.{ℕ, zero, suc, ◌+◌, ◌-◌, ◌/◌, ◌%◌, ◌==◌, List, length, take, fold, ℤ, pos, ◌+ℤ◌, ◌*ℤ◌, if◌then◌else◌}
use Rattle.h264_types.specs.declared.param_sets.sps.Sps.{Sps}
use Rattle.h264_types.specs.declared.slice_headers.slice_headers.SliceHeader.{SliceHeader}
use Rattle.h264_types.specs.declared.pictures.counts.Counts.{Counts}
use Rattle.h264_types.specs.Pictures.{is_reference}

-- absFrameNum (8-7): 0 where the cycle is empty, and one less for a picture that is no reference
abbrev pub abs_frame_num : (frame_num_offset : ℕ) → Sps → SliceHeader → ℕ
abs_frame_num frame_num_offset sps header =
    if length sps.offset_for_ref_frame == 0 then 0
    else if is_reference header then frame_num_offset + header.frame_num
    else frame_num_offset + header.frame_num - 1

-- the sum of offsets
abbrev pub total : List ℤ → ℤ
total offsets = fold ◌+ℤ◌ (pos 0) offsets

-- The first part of expectedPicOrderCnt (8-8, 8-9): ExpectedDeltaPerPicOrderCntCycle for each whole cycle before
-- the frame, and the offsets of its own cycle up to it.
abbrev pub expected : List ℤ → (abs_frame_num : ℕ) → ℤ
expected offsets zero = pos 0
expected offsets (suc before) =
    pos (before / length offsets) *ℤ total offsets +ℤ total (take (before % length offsets + 1) offsets)

-- expectedPicOrderCnt (8-9)
abbrev pub expected_pic_order_cnt : (frame_num_offset : ℕ) → Sps → SliceHeader → ℤ
expected_pic_order_cnt frame_num_offset sps header =
    expected sps.offset_for_ref_frame (abs_frame_num frame_num_offset sps header)
    +ℤ (if is_reference header then pos 0 else sps.offset_for_non_ref_pic)

-- the counts of a frame (8-10)
abbrev pub counts_from : ℤ → Sps → SliceHeader → Counts
counts_from expected sps header = record {
  top = expected +ℤ header.delta_pic_order_cnt0;
  bottom = expected +ℤ header.delta_pic_order_cnt0 +ℤ sps.offset_for_top_to_bottom_field +ℤ header.delta_pic_order_cnt1;
}

-- the counts of a picture of type 1
unfoldable pub type_one : (frame_num_offset : ℕ) → Sps → SliceHeader → Counts
type_one frame_num_offset sps header = counts_from (expected_pic_order_cnt frame_num_offset sps header) sps header
