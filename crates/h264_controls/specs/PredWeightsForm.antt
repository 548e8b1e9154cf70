-- V4L2_CID_STATELESS_H264_PRED_WEIGHTS in the digest form.
use Rattle.std.specs.Prelude.{ℕ, ℤ, List, ◌++◌}
use Rattle.std.specs.List.{flat_map}
use Rattle.h264_controls.specs.declared.v4l2_ctrl_h264_pred_weights.V4l2CtrlH264PredWeights.{V4l2CtrlH264PredWeights}
use Rattle.h264_controls.specs.declared.v4l2_ctrl_h264_pred_weights.V4l2H264WeightFactors.{V4l2H264WeightFactors}
use Rattle.param_set_controls.specs.Words.{u16, s16}

-- what Cb and Cr have for each entry
abbrev pub pairs_form : List (List ℤ) → List ℕ
pairs_form pairs = flat_map (λ pair. flat_map s16 pair) pairs

-- the weights and offsets of a list
unfoldable pub weight_factors_form : V4l2H264WeightFactors → List ℕ
weight_factors_form factors =
    flat_map s16 factors.luma_weight
    ++ flat_map s16 factors.luma_offset
    ++ pairs_form factors.chroma_weight
    ++ pairs_form factors.chroma_offset

-- its members in order
unfoldable pub pred_weights_form : V4l2CtrlH264PredWeights → List ℕ
pred_weights_form weights =
    u16 weights.luma_log2_weight_denom
    ++ u16 weights.chroma_log2_weight_denom
    ++ flat_map weight_factors_form weights.weight_factors
