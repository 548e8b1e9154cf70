-- struct v4l2_ctrl_h264_decode_params (linux/v4l2-controls.h).
use Rattle.std.specs.Prelude.{ℕ, List}
use Rattle.h264_controls.specs.declared.v4l2_ctrl_h264_decode_params.V4l2CtrlH264DecodeParams.{V4l2CtrlH264DecodeParams}
use Rattle.h264_controls.specs.DecodeParamsForm.{decode_flags}
use Rattle.frame_requests.specs.declared.layouts.decode_params.DecodeParamsLayout.{DecodeParamsLayout}
use Rattle.frame_requests.specs.DpbLayout.{dpb_layout}

-- each member is that of its name, as a number; the frames were decoded from these units
abbrev pub decode_params_layout : List ℕ → V4l2CtrlH264DecodeParams → DecodeParamsLayout
decode_params_layout units control = record {
  dpb = dpb_layout control.dpb units;
  nal_ref_idc = control.nal_ref_idc;
  frame_num = control.frame_num;
  top_field_order_cnt = control.top_field_order_cnt;
  bottom_field_order_cnt = control.bottom_field_order_cnt;
  idr_pic_id = control.idr_pic_id;
  pic_order_cnt_lsb = control.pic_order_cnt_lsb;
  delta_pic_order_cnt_bottom = control.delta_pic_order_cnt_bottom;
  delta_pic_order_cnt0 = control.delta_pic_order_cnt0;
  delta_pic_order_cnt1 = control.delta_pic_order_cnt1;
  dec_ref_pic_marking_bit_size = control.dec_ref_pic_marking_bit_size;
  pic_order_cnt_bit_size = control.pic_order_cnt_bit_size;
  slice_group_change_cycle = control.slice_group_change_cycle;
  reserved = 0;
  flags = decode_flags control.flags;
}
