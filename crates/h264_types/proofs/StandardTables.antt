-- What the standard prints, by the definitions: the zig-zag scans as tables of places, and a sequence parameter set with lists.
use Rattle.std.proofs.Common.{◌≡◌, ℕ, List, [], ◌∷◌, map, replicate, Some, None, pos, negsuc, true, false, refl}
use Rattle.std.specs.List.{range_with_len}
use Rattle.h264_types.specs.declared.param_sets.sps.Sps.{Sps}
use Rattle.h264_types.specs.declared.param_sets.pps.Pps.{Pps}
use Rattle.h264_types.specs.InverseScan.{entry_number, raster}
use Rattle.h264_types.specs.DefaultScalingLists.{default_8x8_intra, default_8x8_inter}
use Rattle.h264_types.specs.ScalingMatrix.{entries, scaling_matrix}

-- the place of each entry in turn (8.5.6)
scan_4x4 : map (entry_number 4) (0 ∷ 1 ∷ 4 ∷ 8 ∷ 5 ∷ 2 ∷ 3 ∷ 6 ∷ 9 ∷ 12 ∷ 13 ∷ 10 ∷ 7 ∷ 11 ∷ 14 ∷ 15 ∷ []) ≡ range_with_len 0 16
scan_4x4 = refl

-- the same of 8x8 blocks (8.5.7)
scan_8x8 : map (entry_number 8)
    (0 ∷ 1 ∷ 8 ∷ 16 ∷ 9 ∷ 2 ∷ 3 ∷ 10 ∷ 17 ∷ 24 ∷ 32 ∷ 25 ∷ 18 ∷ 11 ∷ 4 ∷ 5
    ∷ 12 ∷ 19 ∷ 26 ∷ 33 ∷ 40 ∷ 48 ∷ 41 ∷ 34 ∷ 27 ∷ 20 ∷ 13 ∷ 6 ∷ 7 ∷ 14 ∷ 21 ∷ 28
    ∷ 35 ∷ 42 ∷ 49 ∷ 56 ∷ 57 ∷ 50 ∷ 43 ∷ 36 ∷ 29 ∷ 22 ∷ 15 ∷ 23 ∷ 30 ∷ 37 ∷ 44 ∷ 51
    ∷ 58 ∷ 59 ∷ 52 ∷ 45 ∷ 38 ∷ 31 ∷ 39 ∷ 46 ∷ 53 ∷ 60 ∷ 61 ∷ 54 ∷ 47 ∷ 55 ∷ 62 ∷ 63 ∷ [])
    ≡ range_with_len 0 64
scan_8x8 = refl

-- List 0 by its first delta the default, list 3 sixteen times 10, and the others by fall-back rule A.
example : (sps : Sps) (pps : Pps) → sps.seq_scaling_matrix_present_flag ≡ true → pps.pic_scaling_matrix_present_flag ≡ false
    → sps.scaling_lists ≡ Some (negsuc 7 ∷ []) ∷ None ∷ None ∷ Some (pos 2 ∷ negsuc 9 ∷ []) ∷ None ∷ None ∷ None ∷ None ∷ []
    → let intra : List ℕ = 6 ∷ 13 ∷ 20 ∷ 28 ∷ 13 ∷ 20 ∷ 28 ∷ 32 ∷ 20 ∷ 28 ∷ 32 ∷ 37 ∷ 28 ∷ 32 ∷ 37 ∷ 42 ∷ [] in
    let inter : List ℕ = replicate 16 10 in
    scaling_matrix sps pps ≡ record {
      lists_4x4 = intra ∷ intra ∷ intra ∷ inter ∷ inter ∷ inter ∷ [];
      lists_8x8 = raster 8 default_8x8_intra ∷ raster 8 default_8x8_inter ∷ [];
    }
unfolding scaling_matrix entries
example sps pps sequence picture lists = rw (picture, sequence, lists) refl
