-- The control of a picture (struct v4l2_ctrl_h264_decode_params, struct v4l2_h264_dpb_entry; ITU-T H.264, 7.4.3 and
-- 8.2.4.1).
use Rattle.std.specs.Prelude.{ℕ, Bool, true, false, List, [], map, ℤ, pos, if◌then◌else◌}
use Rattle.std.specs.Int.{w32, cast_unsigned}
use Rattle.h264_types.specs.declared.param_sets.sps.Sps.{Sps}
use Rattle.h264_types.specs.declared.slice_headers.slice_headers.SliceHeader.{SliceHeader}
use Rattle.h264_types.specs.declared.pictures.counts.Counts.{Counts}
use Rattle.h264_types.specs.Pictures.{is_idr}
use Rattle.h264_types.specs.declared.pictures.frames.Frame.{Frame}
use Rattle.h264_types.specs.declared.pictures.frames.Term.{Term}
use Rattle.h264_types.specs.declared.pictures.frames.Term.TheVariants.{ShortTerm, LongTerm}
use Rattle.h264_types.specs.PicNums.{frame_num_wrap}
use Rattle.h264_controls.specs.declared.v4l2_ctrl_h264_decode_params.V4l2CtrlH264DecodeParams.{V4l2CtrlH264DecodeParams}
use Rattle.h264_controls.specs.declared.v4l2_ctrl_h264_decode_params.V4l2H264DpbEntry.{V4l2H264DpbEntry}
use Rattle.h264_controls.specs.declared.v4l2_ctrl_h264_decode_params.V4l2H264FieldReference.TheVariants.{Frame as frame_reference}

-- PicNum of a short-term frame, LongTermPicNum of a long-term one
abbrev pub number_in : ℤ → Term → ℤ
number_in wrap ShortTerm = wrap
number_in wrap (LongTerm idx) = pos idx

-- FrameNum of a short-term frame, LongTermFrameIdx of a long-term one
abbrev pub frame_num_in : ℕ → Term → ℕ
frame_num_in number ShortTerm = number
frame_num_in number (LongTerm idx) = idx

abbrev pub is_long_term : Term → Bool
is_long_term ShortTerm = false
is_long_term (LongTerm idx) = true

-- a marked frame, as a picture of this frame_num sees it; PicNum as its low 32 bits
abbrev pub dpb_entry : Sps → ℕ → Frame → V4l2H264DpbEntry
dpb_entry sps frame_num frame = record {
  pic_num = cast_unsigned w32 (number_in (frame_num_wrap sps frame_num frame.frame_num) frame.term);
  frame_num = frame_num_in frame.frame_num frame.term;
  fields = frame_reference;
  top_field_order_cnt = frame.counts.top;
  bottom_field_order_cnt = frame.counts.bottom;
  flags = record { valid = true; active = true; long_term = is_long_term frame.term };
}

-- the marked frames, in decode order; none at an IDR picture
abbrev pub dpb : List Frame → Sps → SliceHeader → List V4l2H264DpbEntry
dpb frames sps header = if is_idr header then [] else map (dpb_entry sps header.frame_num) frames

-- what the header says of the picture, its counts, and the marked frames before it; there is one slice group
abbrev pub decode_params_control : List Frame → Sps → SliceHeader → Counts → V4l2CtrlH264DecodeParams
decode_params_control frames sps header counts = record {
  dpb = dpb frames sps header;
  nal_ref_idc = header.nal_ref_idc;
  frame_num = header.frame_num;
  top_field_order_cnt = counts.top;
  bottom_field_order_cnt = counts.bottom;
  idr_pic_id = header.idr_pic_id;
  pic_order_cnt_lsb = header.pic_order_cnt_lsb;
  delta_pic_order_cnt_bottom = header.delta_pic_order_cnt_bottom;
  delta_pic_order_cnt0 = header.delta_pic_order_cnt0;
  delta_pic_order_cnt1 = header.delta_pic_order_cnt1;
  dec_ref_pic_marking_bit_size = header.dec_ref_pic_marking_bit_size;
  pic_order_cnt_bit_size = header.pic_order_cnt_bit_size;
  slice_group_change_cycle = 0;
  flags = record { idr_pic = is_idr header };
}
