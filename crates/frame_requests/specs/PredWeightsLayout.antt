-- struct v4l2_ctrl_h264_pred_weights (linux/v4l2-controls.h).
use Rattle.std.specs.Prelude.{map}
use Rattle.h264_controls.specs.declared.v4l2_ctrl_h264_pred_weights.V4l2CtrlH264PredWeights.{V4l2CtrlH264PredWeights}
use Rattle.h264_controls.specs.declared.v4l2_ctrl_h264_pred_weights.V4l2H264WeightFactors.{V4l2H264WeightFactors}
use Rattle.frame_requests.specs.declared.layouts.pred_weights.PredWeightsLayout.{PredWeightsLayout}
use Rattle.frame_requests.specs.declared.layouts.pred_weights.WeightFactorsLayout.{WeightFactorsLayout}

-- struct v4l2_h264_weight_factors: each member is that of its name
abbrev pub weight_factors_layout : V4l2H264WeightFactors → WeightFactorsLayout
weight_factors_layout factors = record {
  luma_weight = factors.luma_weight;
  luma_offset = factors.luma_offset;
  chroma_weight = factors.chroma_weight;
  chroma_offset = factors.chroma_offset;
}

-- each member is that of its name
abbrev pub pred_weights_layout : V4l2CtrlH264PredWeights → PredWeightsLayout
pred_weights_layout control = record {
  luma_log2_weight_denom = control.luma_log2_weight_denom;
  chroma_log2_weight_denom = control.chroma_log2_weight_denom;
  weight_factors = map weight_factors_layout control.weight_factors;
}
