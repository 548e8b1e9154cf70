-- What stands after the first part of a picture parameter set.
use Rattle.std.proofs.Common.{◌≡◌, ◌++◌, [], Bool, true, false, cond, List, Result, Ok, Err, refl, sym, ◌∙◌, ap}
use Rattle.expgolomb.specs.Bits.{Place}
use Rattle.param_sets.specs.declared.fault.SetFault.{SetFault}
use Rattle.param_sets.specs.Answer.{Refuses}
use Rattle.h264_types.specs.Chains.{◌>>=◌}
use Rattle.expgolomb.specs.TableReading.{rows_at}
use Rattle.h264_types.specs.ScaleSteps.{Deltas}
use Rattle.param_sets.specs.Scaling.{take_list, list_rows}
use Rattle.param_sets.specs.PpsSyntax.{ScalingList, PpsSoFar, so_far, take, has_matrix, has_large_lists, transform_rows, small_list_rows, large_list_rows, pic_list_rows, list_count, second_offset_rows, more_rows}
use Rattle.h264_types.specs.declared.param_sets.pps.Pps.{Pps}
use Rattle.expgolomb.proofs.Tables.{rows_append}
use Rattle.expgolomb.proofs.Loops.{after_ok, rows_pass, rows_none}
use Rattle.expgolomb.proofs.Parts.{mapped, part_absent, part_read}
use Rattle.param_sets.proofs.Refusals.{refused_by}

large_absent : (s : PpsSoFar) (p : Place) → has_large_lists s ≡ false → rows_at take large_list_rows s p ≡ Ok (s, p)
unfolding large_list_rows
large_absent s p none = part_absent take ScalingList (λ (t : PpsSoFar). t.pps.scaling_lists) has_large_lists (list_rows 6 2) s p none

-- without the flag there are no lists
pub lists_absent : (s : PpsSoFar) (p : Place) → has_matrix s ≡ false → rows_at take pic_list_rows s p ≡ Ok (s, p)
unfolding small_list_rows
lists_absent s p none =
    after_ok take small_list_rows large_list_rows s p s p (part_absent take ScalingList (λ (t : PpsSoFar). t.pps.scaling_lists) has_matrix (list_rows 0 6) s p none) ∙ large_absent s p (rw none refl)

-- no more data
pub more_none : (s t : Pps) (p q : Place) (more : Bool) → rows_at take transform_rows (so_far false s) p ≡ Ok (so_far more t, q) → more ≡ false → rows_at take more_rows (so_far false s) p ≡ Ok (so_far false t, q)
more_none s t p q more read none =
    after_ok take transform_rows (pic_list_rows ++ second_offset_rows) (so_far false s) p (so_far false t) q (rw none at read) ∙ after_ok take pic_list_rows second_offset_rows (so_far false t) q (so_far false t) q (lists_absent (so_far false t) q refl) ∙ rows_pass take _ _ (so_far false t) q refl ∙ rows_none take (so_far false t) q

-- more data
pub more_some : (s t : Pps) (p q : Place) (more : Bool) → rows_at take transform_rows (so_far false s) p ≡ Ok (so_far more t, q) → more ≡ true → rows_at take more_rows (so_far false s) p ≡ rows_at take (pic_list_rows ++ second_offset_rows) (so_far true t) q
more_some s t p q more read some =
    after_ok take transform_rows (pic_list_rows ++ second_offset_rows) (so_far false s) p (so_far true t) q (rw some at read)

-- the set with these lists
abbrev pub with_lists : Pps → List Deltas → PpsSoFar
with_lists s lists = so_far true (record s { scaling_lists = lists })

-- six lists and two more are eight
eight : list_rows 0 8 ≡ list_rows 0 6 ++ list_rows 6 2
unfolding list_rows
eight = refl

small_as : (s : Pps) (lists : List Deltas) (p : Place) → s.pic_scaling_matrix_present_flag ≡ true → rows_at take small_list_rows (with_lists s lists) p ≡ mapped (with_lists s) (rows_at take_list (list_rows 0 6) lists p)
unfolding small_list_rows
small_as s lists p there =
    part_read take take_list ScalingList (λ (t : PpsSoFar). t.pps.scaling_lists) has_matrix (with_lists s) (λ ls. refl) (λ ls. rw there refl) (λ f v ls. refl) (list_rows 0 6) lists p

large_as : (s : Pps) (lists : List Deltas) (p : Place) → s.pic_scaling_matrix_present_flag ≡ true → s.transform_8x8_mode_flag ≡ true → rows_at take large_list_rows (with_lists s lists) p ≡ mapped (with_lists s) (rows_at take_list (list_rows 6 2) lists p)
unfolding large_list_rows
large_as s lists p there large =
    part_read take take_list ScalingList (λ (t : PpsSoFar). t.pps.scaling_lists) has_large_lists (with_lists s) (λ ls. refl) (λ ls. rw (there, large) refl) (λ f v ls. refl) (list_rows 6 2) lists p

-- after the small lists come the large ones
large_after : (s : Pps) (r : Result (List Deltas × Place) SetFault) → s.pic_scaling_matrix_present_flag ≡ true → s.transform_8x8_mode_flag ≡ true → (mapped (with_lists s) r >>= (λ x. rows_at take large_list_rows x.0 x.1)) ≡ mapped (with_lists s) (r >>= (λ x. rows_at take_list (list_rows 6 2) x.0 x.1))
large_after s (Ok x) there large = large_as s x.0 x.1 there large
large_after s (Err e) there large = refl

none_after : (s : Pps) (r : Result (List Deltas × Place) SetFault) → s.pic_scaling_matrix_present_flag ≡ true → s.transform_8x8_mode_flag ≡ false → (mapped (with_lists s) r >>= (λ x. rows_at take large_list_rows x.0 x.1)) ≡ mapped (with_lists s) r
none_after s (Ok x) there small = large_absent (with_lists s x.0) x.1 (rw (there, small) refl)
none_after s (Err e) there small = refl

-- with the flag, the lists are those of their own table
lists_by : (s : Pps) (p : Place) (large : Bool) → s.pic_scaling_matrix_present_flag ≡ true → s.transform_8x8_mode_flag ≡ large → rows_at take pic_list_rows (with_lists s []) p ≡ mapped (with_lists s) (rows_at take_list (list_rows 0 (cond large 8 6)) [] p)
lists_by s p true there large =
    rows_append take small_list_rows large_list_rows (with_lists s []) p ∙ ap (λ r. r >>= (λ x. rows_at take large_list_rows x.0 x.1)) (small_as s [] p there) ∙ large_after s (rows_at take_list (list_rows 0 6) [] p) there large ∙ ap (mapped (with_lists s)) (sym (rows_append take_list (list_rows 0 6) (list_rows 6 2) [] p)) ∙ ap (λ rows. mapped (with_lists s) (rows_at take_list rows [] p)) (sym eight)
lists_by s p false there large =
    rows_append take small_list_rows large_list_rows (with_lists s []) p ∙ ap (λ r. r >>= (λ x. rows_at take large_list_rows x.0 x.1)) (small_as s [] p there) ∙ none_after s (rows_at take_list (list_rows 0 6) [] p) there large

lists_as : (s : Pps) (p : Place) → s.pic_scaling_matrix_present_flag ≡ true → s.scaling_lists ≡ [] → rows_at take pic_list_rows (so_far true s) p ≡ mapped (with_lists s) (rows_at take_list (list_rows 0 (list_count s)) [] p)
lists_as s p there none =
    ap (λ (ls : List Deltas). rows_at take pic_list_rows (with_lists s ls) p) none ∙ lists_by s p s.transform_8x8_mode_flag there refl

pub lists_read : (s : Pps) (lists : List Deltas) (p q : Place) → s.pic_scaling_matrix_present_flag ≡ true → s.scaling_lists ≡ [] → rows_at take_list (list_rows 0 (list_count s)) [] p ≡ Ok (lists, q) → rows_at take pic_list_rows (so_far true s) p ≡ Ok (with_lists s lists, q)
lists_read s lists p q there none read = lists_as s p there none ∙ ap (mapped (with_lists s)) read

pub lists_fault : (s : Pps) (e : SetFault) (p : Place) → s.pic_scaling_matrix_present_flag ≡ true → s.scaling_lists ≡ [] → Refuses e (rows_at take_list (list_rows 0 (list_count s)) [] p) → Refuses e (rows_at take pic_list_rows (so_far true s) p)
lists_fault s e p there none fault =
    refused_by e (rows_at take_list (list_rows 0 (list_count s)) [] p) (rows_at take pic_list_rows (so_far true s) p) (λ h. lists_as s p there none ∙ ap (mapped (with_lists s)) h) fault
