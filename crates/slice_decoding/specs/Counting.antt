-- The counts of a picture by its type of counting, where they have 32 bits (ITU-T H.264, 8.2.1).
use Rattle.std.specs.Prelude.{◌^◌, Bool, true, ◌&&◌, nat_lt, Result, Ok, Err, if◌then◌else◌}
use Rattle.h264_types.specs.declared.param_sets.sps.Sps.{Sps}
use Rattle.h264_types.specs.declared.param_sets.sps.PicOrderCntType.{PicOrderCntType}
use Rattle.h264_types.specs.declared.param_sets.sps.PicOrderCntType.TheVariants.{Zero, One, Two}
use Rattle.h264_types.specs.declared.slice_headers.slice_headers.SliceHeader.{SliceHeader}
use Rattle.slice_decoding.specs.declared.order_count.anchors.Anchor.{Anchor}
use Rattle.h264_types.specs.declared.pictures.counts.Counts.{Counts}
use Rattle.slice_decoding.specs.declared.order_count.counting.OrderRange.{OrderRange}
use Rattle.h264_types.specs.PicOrderCnt.{are_in_range}
use Rattle.slice_decoding.specs.FrameNumbers.{frame_num_offset}
use Rattle.slice_decoding.specs.TypeZero.{type_zero}
use Rattle.slice_decoding.specs.TypeOne.{type_one}
use Rattle.slice_decoding.specs.TypeTwo.{type_two}
use Rattle.h264_types.specs.Resetting.{counts_after_reset}

-- the counts by pic_order_cnt_type
abbrev pub by_type : PicOrderCntType → Anchor → Sps → SliceHeader → Counts
by_type Zero anchor sps header = type_zero anchor sps header
by_type One anchor sps header = type_one (frame_num_offset anchor sps header) sps header
by_type Two anchor sps header = type_two (frame_num_offset anchor sps header) header

-- FrameNumOffset is below 2^32, where the type reads it
abbrev pub has_small_offset : PicOrderCntType → Anchor → Sps → SliceHeader → Bool
has_small_offset Zero anchor sps header = true
has_small_offset One anchor sps header = nat_lt (frame_num_offset anchor sps header) (2 ^ 32)
has_small_offset Two anchor sps header = nat_lt (frame_num_offset anchor sps header) (2 ^ 32)

-- the counts of a picture, where they and what is kept of them are in range
unfoldable pub counts_of : Anchor → Sps → SliceHeader → Result Counts OrderRange
counts_of anchor sps header =
    if has_small_offset sps.pic_order_cnt_type anchor sps header
    && are_in_range counts && are_in_range (counts_after_reset header counts)
    then Ok counts
    else Err (record {})
  where
    counts : Counts
    counts = by_type sps.pic_order_cnt_type anchor sps header
