-- What counting keeps of the pictures before (ITU-T H.264, 8.2.1.1 and 8.2.1.2). What the type doesn't read is 0.
use Rattle.std.specs.Prelude.{pos, if◌then◌else◌}
use Rattle.h264_types.specs.declared.param_sets.sps.Sps.{Sps}
use Rattle.h264_types.specs.declared.param_sets.sps.PicOrderCntType.{PicOrderCntType}
use Rattle.h264_types.specs.declared.param_sets.sps.PicOrderCntType.TheVariants.{Zero, One, Two}
use Rattle.h264_types.specs.declared.slice_headers.slice_headers.SliceHeader.{SliceHeader}
use Rattle.slice_decoding.specs.declared.order_count.anchors.Anchor.{Anchor}
use Rattle.h264_types.specs.declared.pictures.counts.Counts.{Counts}
use Rattle.h264_types.specs.Pictures.{is_reference}
use Rattle.slice_decoding.specs.FrameNumbers.{frame_num_offset}
use Rattle.slice_decoding.specs.TypeZero.{pic_order_cnt_msb}
use Rattle.h264_types.specs.Resetting.{has_operation_five, counts_after_reset}

-- before the first picture
abbrev pub no_pictures : Anchor
no_pictures = record {
  prev_pic_order_cnt_msb = pos 0;
  prev_pic_order_cnt_lsb = pos 0;
  prev_frame_num_offset = 0;
  prev_frame_num = 0;
}

-- of a reference picture of type 0; after operation 5 its top count stands for pic_order_cnt_lsb (8.2.1.1)
abbrev pub of_reference_picture : Anchor → Sps → SliceHeader → Counts → Anchor
of_reference_picture anchor sps header counts =
    if has_operation_five header
    then record no_pictures { prev_pic_order_cnt_lsb = (counts_after_reset header counts).top }
    else record no_pictures {
      prev_pic_order_cnt_msb = pic_order_cnt_msb anchor sps header;
      prev_pic_order_cnt_lsb = pos header.pic_order_cnt_lsb;
    }

-- of a picture of type 1 or 2; after operation 5 both are 0 (8.2.1.2)
abbrev pub of_picture : Anchor → Sps → SliceHeader → Anchor
of_picture anchor sps header =
    if has_operation_five header
    then no_pictures
    else record no_pictures {
      prev_frame_num_offset = frame_num_offset anchor sps header;
      prev_frame_num = header.frame_num;
    }

-- by pic_order_cnt_type: of type 0, a picture that is no reference leaves what there is
abbrev pub of_type : PicOrderCntType → Anchor → Sps → SliceHeader → Counts → Anchor
of_type Zero anchor sps header counts =
    if is_reference header then of_reference_picture anchor sps header counts else anchor
of_type One anchor sps header counts = of_picture anchor sps header
of_type Two anchor sps header counts = of_picture anchor sps header

-- the anchor after a picture of these counts
unfoldable pub anchor_after_of : Anchor → Sps → SliceHeader → Counts → Anchor
anchor_after_of anchor sps header counts = of_type sps.pic_order_cnt_type anchor sps header counts
