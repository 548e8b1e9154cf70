-- Type 2: pictures are shown in decoding order (ITU-T H.264, 8.2.1.3).
use Rattle.std.specs.Prelude.{ℕ, ◌+◌, ◌*◌, ℤ, pos, ◌-ℤ◌, if◌then◌else◌}
use Rattle.h264_types.specs.declared.slice_headers.slice_headers.SliceHeader.{SliceHeader}
use Rattle.h264_types.specs.declared.pictures.counts.Counts.{Counts}
use Rattle.h264_types.specs.Pictures.{is_idr, is_reference}

-- tempPicOrderCnt (8-12)
abbrev pub temp_pic_order_cnt : (frame_num_offset : ℕ) → SliceHeader → ℤ
temp_pic_order_cnt frame_num_offset header =
    if is_idr header then pos 0
    else if is_reference header then pos (2 * (frame_num_offset + header.frame_num))
    else pos (2 * (frame_num_offset + header.frame_num)) -ℤ pos 1

-- both counts of a frame (8-13)
unfoldable pub type_two : (frame_num_offset : ℕ) → SliceHeader → Counts
type_two frame_num_offset header = record {
  top = temp_pic_order_cnt frame_num_offset header;
  bottom = temp_pic_order_cnt frame_num_offset header;
}
