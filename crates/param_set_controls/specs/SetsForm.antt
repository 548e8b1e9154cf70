-- The controls that the parameter sets alone decide, in the digest form.
use Rattle.std.specs.Prelude.{ℕ, List, ◌++◌}
use Rattle.param_set_controls.specs.declared.set_controls.SetControls.{SetControls}
use Rattle.param_set_controls.specs.SpsForm.{sps_form}
use Rattle.param_set_controls.specs.PpsForm.{pps_form}
use Rattle.param_set_controls.specs.ScalingMatrixForm.{scaling_matrix_form}

-- the three controls in order, without gaps
unfoldable pub sets_form : SetControls → List ℕ
sets_form sets = sps_form sets.sps ++ pps_form sets.pps ++ scaling_matrix_form sets.scaling_matrix
