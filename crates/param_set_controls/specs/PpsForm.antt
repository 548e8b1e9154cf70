-- V4L2_CID_STATELESS_H264_PPS in the digest form.
use Rattle.std.specs.Prelude.{ℕ, ◌+◌, List, ◌++◌}
use Rattle.h264_types.specs.declared.param_sets.pps.WeightedBipred.{WeightedBipred}
use Rattle.h264_types.specs.declared.param_sets.pps.WeightedBipred.TheVariants.{Default, Explicit, Implicit}
use Rattle.param_set_controls.specs.declared.v4l2_ctrl_h264_pps.V4l2CtrlH264Pps.{V4l2CtrlH264Pps}
use Rattle.param_set_controls.specs.declared.v4l2_ctrl_h264_pps.PpsFlags.{PpsFlags}
use Rattle.param_set_controls.specs.Words.{u8, u16, s8, flag}

-- weighted_bipred_idc as a number
abbrev pub weighted_bipred_number : WeightedBipred → ℕ
weighted_bipred_number Default = 0
weighted_bipred_number Explicit = 1
weighted_bipred_number Implicit = 2

-- V4L2_H264_PPS_FLAG_*
abbrev pub pps_flags : PpsFlags → ℕ
pps_flags flags =
    flag 1 flags.entropy_coding_mode
    + flag 2 flags.bottom_field_pic_order_in_frame_present
    + flag 4 flags.weighted_pred
    + flag 8 flags.deblocking_filter_control_present
    + flag 16 flags.constrained_intra_pred
    + flag 32 flags.redundant_pic_cnt_present
    + flag 64 flags.transform_8x8_mode
    + flag 128 flags.scaling_matrix_present

-- its members in order
unfoldable pub pps_form : V4l2CtrlH264Pps → List ℕ
pps_form pps =
    u8 pps.pic_parameter_set_id
    ++ u8 pps.seq_parameter_set_id
    ++ u8 pps.num_slice_groups_minus1
    ++ u8 pps.num_ref_idx_l0_default_active_minus1
    ++ u8 pps.num_ref_idx_l1_default_active_minus1
    ++ u8 (weighted_bipred_number pps.weighted_bipred_idc)
    ++ s8 pps.pic_init_qp_minus26
    ++ s8 pps.pic_init_qs_minus26
    ++ s8 pps.chroma_qp_index_offset
    ++ s8 pps.second_chroma_qp_index_offset
    ++ u16 (pps_flags pps.flags)
