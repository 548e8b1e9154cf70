-- FrameNumOffset, which counts the rounds of frame_num (ITU-T H.264, 7.4.2.1.1 and 8.2.1.2).
use Rattle.std.specs.Prelude.{ℕ, ◌+◌, ◌^◌, nat_lt, if◌then◌else◌}
use Rattle.h264_types.specs.declared.param_sets.sps.Sps.{Sps}
use Rattle.h264_types.specs.FrameNumbers.{max_frame_num}
use Rattle.h264_types.specs.declared.slice_headers.slice_headers.SliceHeader.{SliceHeader}
use Rattle.slice_decoding.specs.declared.order_count.anchors.Anchor.{Anchor}
use Rattle.h264_types.specs.Pictures.{is_idr}

-- FrameNumOffset (8-6): one round more where frame_num fell
abbrev pub frame_num_offset : Anchor → Sps → SliceHeader → ℕ
frame_num_offset anchor sps header =
    if is_idr header then 0
    else if nat_lt header.frame_num anchor.prev_frame_num then anchor.prev_frame_num_offset + max_frame_num sps
    else anchor.prev_frame_num_offset
