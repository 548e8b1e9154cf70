-- The weights of a list, filled entry by entry.
use mathlib.Core.Path.{Path}
use Rattle.std.proofs.Common.{◌≡◌, ℕ, ◌+◌, ◌<◌, Bool, List, [], ◌∷◌, ℤ, pos, refl}
use Rattle.h264_types.specs.declared.slice_headers.pred_weight_table.PredWeight.{PredWeight}
use Rattle.h264_controls.specs.declared.v4l2_ctrl_h264_pred_weights.V4l2H264WeightFactors.{V4l2H264WeightFactors}
use Rattle.h264_controls.specs.PredWeightsControl.{weight_at, weight_factors, with_weight}
use Rattle.h264_controls.proofs.Filled.{IsFilled, filled-all, filled-more}

-- lists are equal part by part
same-parts : (a b c d : List ℤ) (e f g h : List (List ℤ)) → a ≡ b → c ≡ d → e ≡ f → g ≡ h
    → Path V4l2H264WeightFactors (record { luma_weight = a; luma_offset = c; chroma_weight = e; chroma_offset = g })
    (record { luma_weight = b; luma_offset = d; chroma_weight = f; chroma_offset = h })
same-parts a b c d e f g h one two three four = rw (one, two, three, four) refl

module _ (chroma : Bool) (weights : List PredWeight) where
  -- each entry so far has its weights
  pub record AreFilled (count : ℕ) (factors : V4l2H264WeightFactors) : Type 0 where
    pub luma_weight : IsFilled (pos 0) (λ place. (weight_at chroma weights place).luma_weight) 32 count factors.luma_weight
    pub luma_offset : IsFilled (pos 0) (λ place. (weight_at chroma weights place).luma_offset) 32 count factors.luma_offset
    pub chroma_weight : IsFilled [] (λ place. (weight_at chroma weights place).cb_weight ∷ (weight_at chroma weights place).cr_weight ∷ []) 32 count factors.chroma_weight
    pub chroma_offset : IsFilled [] (λ place. (weight_at chroma weights place).cb_offset ∷ (weight_at chroma weights place).cr_offset ∷ []) 32 count factors.chroma_offset

  -- one entry more
  pub weights-more : (count : ℕ) (factors : V4l2H264WeightFactors) → AreFilled count factors → count < 32
      → AreFilled (count + 1) (with_weight count (weight_at chroma weights count) factors)
  weights-more count factors filled below = record {
    luma_weight = filled-more _ _ 32 count factors.luma_weight _ filled.luma_weight below refl;
    luma_offset = filled-more _ _ 32 count factors.luma_offset _ filled.luma_offset below refl;
    chroma_weight = filled-more _ _ 32 count factors.chroma_weight _ filled.chroma_weight below refl;
    chroma_offset = filled-more _ _ 32 count factors.chroma_offset _ filled.chroma_offset below refl;
  }

  -- all of them
  pub weights-all : (factors : V4l2H264WeightFactors) → AreFilled 32 factors → factors ≡ weight_factors chroma weights
  weights-all factors filled =
      let luma_weight = filled-all _ _ 32 factors.luma_weight filled.luma_weight in
      let luma_offset = filled-all _ _ 32 factors.luma_offset filled.luma_offset in
      let chroma_weight = filled-all _ _ 32 factors.chroma_weight filled.chroma_weight in
      let chroma_offset = filled-all _ _ 32 factors.chroma_offset filled.chroma_offset in
      same-parts _ _ _ _ _ _ _ _ luma_weight luma_offset chroma_weight chroma_offset
