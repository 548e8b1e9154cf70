-- The controls that the parameter sets alone decide.
use Rattle.h264_types.specs.declared.param_sets.sps.Sps.{Sps}
use Rattle.h264_types.specs.declared.param_sets.pps.Pps.{Pps}
use Rattle.param_set_controls.specs.declared.set_controls.SetControls.{SetControls}
use Rattle.param_set_controls.specs.SpsControl.{sps_control}
use Rattle.param_set_controls.specs.PpsControl.{pps_control}
use Rattle.param_set_controls.specs.ScalingMatrixControl.{scaling_matrix_control}

-- those of a picture parameter set, and of the sequence parameter set that it stands on
abbrev pub set_controls : Sps → Pps → SetControls
set_controls sps pps = record {
  sps = sps_control sps;
  pps = pps_control sps pps;
  scaling_matrix = scaling_matrix_control sps pps;
}
