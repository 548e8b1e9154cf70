-- The scaling lists of a picture: what its sets sent, the defaults, and what lists that weren't sent fall back to
-- (ITU-T H.264, 7.4.2.1.1, 7.4.2.1.1.1 and 7.4.2.2). Lists 0 to 2 are intra 4x4 Y, Cb and Cr, lists 3 to 5 inter 4x4,
-- list 6 is intra 8x8 Y and list 7 inter 8x8 Y.
use Rattle.std.specs.Prelude.{ℕ, zero, suc, ◌+◌, ◌==◌, Bool, List, [], ◌∷◌, map, take, replicate, Option, Some, None, ℤ, slice_get, if◌then◌else◌}
use Rattle.std.specs.List.{list_any, range_with_len}
use Rattle.h264_types.specs.declared.param_sets.sps.Sps.{Sps}
use Rattle.h264_types.specs.declared.param_sets.pps.Pps.{Pps}
use Rattle.h264_types.specs.declared.param_sets.scaling_matrix.ScalingMatrix.{ScalingMatrix}
use Rattle.h264_types.specs.ScaleSteps.{Deltas, scale_after, next_scale, list_size}
use Rattle.h264_types.specs.DefaultScalingLists.{default_list}
use Rattle.h264_types.specs.InverseScan.{raster}

-- the deltas before the one that ends the list, which makes nextScale 0; the scale is that after the deltas before them
abbrev pub before_end : ℕ → List ℤ → List ℤ
before_end scale [] = []
before_end scale (delta ∷ deltas) =
    if scale_after scale delta == 0 then [] else delta ∷ before_end (scale_after scale delta) deltas

-- Entry number k: nextScale after as many deltas and one more, or after all where the list ended before (7.3.2.1.1.1).
abbrev pub entry : List ℤ → ℕ → ℕ
entry deltas k = next_scale (take (k + 1) (before_end 8 deltas))

-- the entries of a list of this size
unfoldable pub entries : ℕ → List ℤ → List ℕ
entries size deltas = map (entry deltas) (range_with_len 0 size)

-- useDefaultScalingMatrixFlag: the first delta makes nextScale 0
abbrev pub use_default : List ℤ → Bool
use_default deltas = next_scale (take 1 deltas) == 0

-- A list of a set with lists: the default or the entries where it is present, what it falls back to where its flag is 0,
-- and another one where the set doesn't send it at all.
abbrev pub list_sent : (size : ℕ) (default fallback unsent : List ℕ) → Option Deltas → List ℕ
list_sent size default fallback unsent None = unsent
list_sent size default fallback unsent (Some None) = fallback
list_sent size default fallback unsent (Some (Some deltas)) = if use_default deltas then default else entries size deltas

-- Table 7-2: lists 1, 2, 4 and 5 fall back to the list before them, the others by the rule that holds for the set
abbrev pub follows : ℕ → Bool
follows j = list_any (λ k. k == j) (1 ∷ 2 ∷ 4 ∷ 5 ∷ [])

-- list number j of a set with lists, by what the rule says of each list and by what stands for lists that it doesn't send
abbrev pub list_in : (rule unsent : ℕ → List ℕ) → List Deltas → ℕ → List ℕ
list_in rule unsent lists zero =
    list_sent (list_size zero) (default_list zero) (rule zero) (unsent zero) (slice_get lists zero)
list_in rule unsent lists (suc j) =
    list_sent (list_size (suc j)) (default_list (suc j))
    (if follows (suc j) then list_in rule unsent lists j else rule (suc j)) (unsent (suc j)) (slice_get lists (suc j))

-- Flat_4x4_16 and Flat_8x8_16
abbrev pub flat_list : ℕ → List ℕ
flat_list j = replicate (list_size j) 16

-- the lists of a sequence parameter set: flat, or by fall-back rule A
abbrev pub sequence_list : Sps → ℕ → List ℕ
sequence_list sps j =
    if sps.seq_scaling_matrix_present_flag then list_in default_list flat_list sps.scaling_lists j else flat_list j

-- the rule that holds for a picture parameter set: A over a sequence parameter set without lists, else B
abbrev pub picture_rule : Sps → ℕ → List ℕ
picture_rule sps j = if sps.seq_scaling_matrix_present_flag then sequence_list sps j else default_list j

-- the lists of a picture parameter set; those that it doesn't send are the sequence parameter set's
abbrev pub picture_list : Sps → Pps → ℕ → List ℕ
picture_list sps pps j =
    if pps.pic_scaling_matrix_present_flag then list_in (picture_rule sps) (sequence_list sps) pps.scaling_lists j
    else sequence_list sps j

-- the lists of a picture, each block in raster order
unfoldable pub scaling_matrix : Sps → Pps → ScalingMatrix
scaling_matrix sps pps = record {
  lists_4x4 = map (λ j. raster 4 (picture_list sps pps j)) (range_with_len 0 6);
  lists_8x8 = map (λ j. raster 8 (picture_list sps pps j)) (range_with_len 6 2);
}
