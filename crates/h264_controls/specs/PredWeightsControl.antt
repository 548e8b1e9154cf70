-- The control of a weight table (struct v4l2_ctrl_h264_pred_weights; ITU-T H.264, 7.4.3.2).
use Rattle.std.specs.Prelude.{ℕ, Bool, true, false, pos, List, [], ◌∷◌, map, set, Option, Some, None, slice_get}
use Rattle.std.specs.List.{range_with_len}
use Rattle.h264_types.specs.declared.param_sets.sps.ChromaFormat.{ChromaFormat}
use Rattle.h264_types.specs.declared.param_sets.sps.ChromaFormat.TheVariants.{Monochrome}
use Rattle.h264_types.specs.declared.param_sets.sps.Sps.{Sps}
use Rattle.h264_types.specs.declared.slice_headers.pred_weight_table.PredWeight.{PredWeight}
use Rattle.h264_types.specs.declared.slice_headers.pred_weight_table.PredWeightTable.{PredWeightTable}
use Rattle.h264_controls.specs.declared.v4l2_ctrl_h264_pred_weights.V4l2CtrlH264PredWeights.{V4l2CtrlH264PredWeights}
use Rattle.h264_controls.specs.declared.v4l2_ctrl_h264_pred_weights.V4l2H264WeightFactors.{V4l2H264WeightFactors}

-- whether pictures of the format have chroma
abbrev pub has_chroma : ChromaFormat → Bool
has_chroma Monochrome = false
has_chroma _ = true

-- the weights of an entry that isn't active
abbrev pub no_weight : PredWeight
no_weight = record {
  luma_weight = pos 0;
  luma_offset = pos 0;
  cb_weight = pos 0;
  cb_offset = pos 0;
  cr_weight = pos 0;
  cr_offset = pos 0;
}

-- the weights of an entry, those of chroma where there is chroma
abbrev pub weight_of : Bool → Option PredWeight → PredWeight
weight_of chroma None = no_weight
weight_of true (Some weight) = weight
weight_of false (Some weight) = record no_weight { luma_weight = weight.luma_weight; luma_offset = weight.luma_offset }

-- the weights of the entry at a place
abbrev pub weight_at : Bool → List PredWeight → ℕ → PredWeight
weight_at chroma weights place = weight_of chroma (slice_get weights place)

-- a part of the weights of each of the 32 entries
abbrev pub each : {T : Type 0} → (PredWeight → T) → Bool → List PredWeight → List T
each part chroma weights = map (λ place. part (weight_at chroma weights place)) (range_with_len 0 32)

-- the weights of an entry put into its place
abbrev pub with_weight : ℕ → PredWeight → V4l2H264WeightFactors → V4l2H264WeightFactors
with_weight place weight factors = record {
  luma_weight = set factors.luma_weight place weight.luma_weight;
  luma_offset = set factors.luma_offset place weight.luma_offset;
  chroma_weight = set factors.chroma_weight place (weight.cb_weight ∷ weight.cr_weight ∷ []);
  chroma_offset = set factors.chroma_offset place (weight.cb_offset ∷ weight.cr_offset ∷ []);
}

-- the weights and offsets of a list
abbrev pub weight_factors : Bool → List PredWeight → V4l2H264WeightFactors
weight_factors chroma weights = record {
  luma_weight = each (λ weight. weight.luma_weight) chroma weights;
  luma_offset = each (λ weight. weight.luma_offset) chroma weights;
  chroma_weight = each (λ weight. weight.cb_weight ∷ weight.cr_weight ∷ []) chroma weights;
  chroma_offset = each (λ weight. weight.cb_offset ∷ weight.cr_offset ∷ []) chroma weights;
}

-- the denominators, and the weights of both lists
abbrev pub pred_weights_control : Sps → PredWeightTable → V4l2CtrlH264PredWeights
pred_weights_control sps table = record {
  luma_log2_weight_denom = table.luma_log2_weight_denom;
  chroma_log2_weight_denom = table.chroma_log2_weight_denom;
  weight_factors = weight_factors (has_chroma sps.chroma_format_idc) table.weights_l0
      ∷ weight_factors (has_chroma sps.chroma_format_idc) table.weights_l1 ∷ [];
}
