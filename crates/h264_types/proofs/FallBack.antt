-- The lists of one kind of macroblocks, list by list.
use Rattle.std.proofs.Common.{◌≡◌, replicate, refl, true}
use Rattle.h264_types.specs.declared.param_sets.sps.Sps.{Sps}
use Rattle.h264_types.specs.declared.param_sets.fall_back.Prediction.{Prediction}
use Rattle.h264_types.specs.declared.param_sets.fall_back.Prediction.TheVariants.{Intra, Inter}
use Rattle.h264_types.specs.FallBack.{lists_of}
use Rattle.h264_types.specs.DefaultScalingLists.{default_list}
use Rattle.h264_types.specs.ScalingMatrix.{flat_list, list_in, sequence_list}

-- the flat lists
pub flat_lists : (p : Prediction) → record { y = replicate 16 16; cb = replicate 16 16; cr = replicate 16 16; y_8x8 = replicate 64 16 } ≡ lists_of flat_list p
flat_lists Intra = refl
flat_lists Inter = refl

-- a sequence parameter set with lists
pub sequence_with : (sps : Sps) (p : Prediction) → sps.seq_scaling_matrix_present_flag ≡ true → lists_of (list_in default_list flat_list sps.scaling_lists) p ≡ lists_of (sequence_list sps) p
sequence_with sps Intra is = rw is refl
sequence_with sps Inter is = rw is refl
