-- The digest form of controls: the controls in order, without gaps.
use Rattle.std.specs.Prelude.{ℕ, List, ◌++◌, Option, None, Some, is_some, if◌then◌else◌}
use Rattle.h264_controls.specs.declared.controls.Controls.{Controls}
use Rattle.h264_controls.specs.declared.v4l2_ctrl_h264_pred_weights.V4l2CtrlH264PredWeights.{V4l2CtrlH264PredWeights}
use Rattle.param_set_controls.specs.Words.{u8}
use Rattle.param_set_controls.specs.SpsForm.{sps_form}
use Rattle.param_set_controls.specs.PpsForm.{pps_form}
use Rattle.param_set_controls.specs.ScalingMatrixForm.{scaling_matrix_form}
use Rattle.h264_controls.specs.PredWeightsForm.{pred_weights_form}
use Rattle.h264_controls.specs.SliceParamsForm.{slice_params_form}
use Rattle.h264_controls.specs.DecodeParamsForm.{decode_params_form}

-- whether there are weights, and the weights
abbrev pub weights_form : Option V4l2CtrlH264PredWeights → List ℕ
weights_form None = u8 0
weights_form (Some weights) = u8 1 ++ pred_weights_form weights

-- the controls in order
unfoldable pub digest_form : Controls → List ℕ
digest_form controls =
    sps_form controls.sets.sps
    ++ pps_form controls.sets.pps
    ++ scaling_matrix_form controls.sets.scaling_matrix
    ++ weights_form controls.pred_weights
    ++ slice_params_form controls.slice_params
    ++ decode_params_form controls.decode_params

-- what comes after its first part, which the parameter sets decide (`sets_form`)
unfoldable pub slice_form : Controls → List ℕ
slice_form controls =
    weights_form controls.pred_weights
    ++ slice_params_form controls.slice_params
    ++ decode_params_form controls.decode_params

-- how many bytes the weights take
abbrev pub weights_size : Option V4l2CtrlH264PredWeights → ℕ
weights_size None = 1
weights_size (Some weights) = 773

-- how many bytes it has
abbrev pub digest_size : Controls → ℕ
digest_size controls = if is_some controls.pred_weights then 2812 else 2040

-- how many bytes the rest after the sets' part has
abbrev pub slice_size : Controls → ℕ
slice_size controls = if is_some controls.pred_weights then 1272 else 500
