-- V4L2_CID_STATELESS_H264_DECODE_PARAMS in the digest form.
use Rattle.std.specs.Prelude.{ℕ, ◌+◌, List, ◌++◌}
use Rattle.std.specs.List.{flat_map}
use Rattle.h264_controls.specs.declared.v4l2_ctrl_h264_decode_params.V4l2CtrlH264DecodeParams.{V4l2CtrlH264DecodeParams}
use Rattle.h264_controls.specs.declared.v4l2_ctrl_h264_decode_params.V4l2H264DpbEntry.{V4l2H264DpbEntry}
use Rattle.h264_controls.specs.declared.v4l2_ctrl_h264_decode_params.V4l2H264FieldReference.{V4l2H264FieldReference}
use Rattle.h264_controls.specs.declared.v4l2_ctrl_h264_decode_params.V4l2H264FieldReference.TheVariants.{TopField, BottomField, Frame}
use Rattle.h264_controls.specs.declared.v4l2_ctrl_h264_decode_params.DpbEntryFlags.{DpbEntryFlags}
use Rattle.h264_controls.specs.declared.v4l2_ctrl_h264_decode_params.DecodeFlags.{DecodeFlags}
use Rattle.param_set_controls.specs.Words.{u8, u16, u32, s32, flag, padded}

-- enum v4l2_h264_field_reference
abbrev pub field_reference_number : V4l2H264FieldReference → ℕ
field_reference_number TopField = 1
field_reference_number BottomField = 2
field_reference_number Frame = 3

-- V4L2_H264_DPB_ENTRY_FLAG_*
abbrev pub dpb_entry_flags : DpbEntryFlags → ℕ
dpb_entry_flags flags = flag 1 flags.valid + flag 2 flags.active + flag 4 flags.long_term

-- V4L2_H264_DECODE_PARAM_FLAG_*
abbrev pub decode_flags : DecodeFlags → ℕ
decode_flags flags = flag 1 flags.idr_pic

-- the members of an entry in order; its timestamp is no part of the form
unfoldable pub dpb_entry_form : V4l2H264DpbEntry → List ℕ
dpb_entry_form entry =
    u32 entry.pic_num
    ++ u16 entry.frame_num
    ++ u8 (field_reference_number entry.fields)
    ++ s32 entry.top_field_order_cnt
    ++ s32 entry.bottom_field_order_cnt
    ++ u32 (dpb_entry_flags entry.flags)

-- sixteen entries, of which those that hold no frame are zeros
unfoldable pub dpb_form : List V4l2H264DpbEntry → List ℕ
dpb_form entries = padded 304 (flat_map dpb_entry_form entries)

-- its members in order
unfoldable pub decode_params_form : V4l2CtrlH264DecodeParams → List ℕ
decode_params_form params =
    dpb_form params.dpb
    ++ u16 params.nal_ref_idc
    ++ u16 params.frame_num
    ++ s32 params.top_field_order_cnt
    ++ s32 params.bottom_field_order_cnt
    ++ u16 params.idr_pic_id
    ++ u16 params.pic_order_cnt_lsb
    ++ s32 params.delta_pic_order_cnt_bottom
    ++ s32 params.delta_pic_order_cnt0
    ++ s32 params.delta_pic_order_cnt1
    ++ u32 params.dec_ref_pic_marking_bit_size
    ++ u32 params.pic_order_cnt_bit_size
    ++ u32 params.slice_group_change_cycle
    ++ u32 (decode_flags params.flags)
