-- The lists of one kind of macroblocks, as the code keeps them.
use Rattle.std.specs.Prelude.{ℕ, List}
use Rattle.h264_types.specs.declared.param_sets.fall_back.Prediction.{Prediction}
use Rattle.h264_types.specs.declared.param_sets.fall_back.Prediction.TheVariants.{Intra, Inter}
use Rattle.h264_types.specs.declared.param_sets.fall_back.Lists.{Lists}

-- the number of the first 4x4 list, of Y, before those of Cb and Cr
abbrev pub first_4x4 : Prediction → ℕ
first_4x4 Intra = 0
first_4x4 Inter = 3

-- the number of the 8x8 list
abbrev pub number_8x8 : Prediction → ℕ
number_8x8 Intra = 6
number_8x8 Inter = 7

-- the lists with these numbers
abbrev pub lists_of : (ℕ → List ℕ) → Prediction → Lists
lists_of list Intra = record { y = list 0; cb = list 1; cr = list 2; y_8x8 = list 6 }
lists_of list Inter = record { y = list 3; cb = list 4; cr = list 5; y_8x8 = list 7 }
