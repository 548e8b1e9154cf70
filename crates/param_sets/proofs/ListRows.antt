-- Scaling lists, list by list and delta by delta.
use Rattle.std.proofs.Common.{◌≡◌, ℕ, suc, ◌+◌, true, false, List, [], ◌∷◌, ◌++◌, replicate, length, Some, None, Ok, Err, ℤ, pos, refl, sym, ◌∙◌, ap, add-one}
use Rattle.std.proofs.lemmas.Bool.{ne_eqb}
use Rattle.std.proofs.lemmas.List.Sums.{fold_push}
use Rattle.expgolomb.specs.Bits.{Place}
use Rattle.param_sets.specs.declared.fault.SetFault.{SetFault}
use Rattle.param_sets.specs.Answer.{Refuses}
use Rattle.expgolomb.specs.TableReading.{field_at, rows_at}
use Rattle.h264_types.specs.ScaleSteps.{Deltas, list_size, next_scale, scale_after}
use Rattle.param_sets.specs.Scaling.{take_list, present_row, delta_row, list_rows, is_reading, goes_on, add_delta}
use Rattle.expgolomb.proofs.Loops.{rows_step, rows_stop, rows_none, repeat_step, repeat_stop, repeat_absent, after_ok, after_err}
use Rattle.param_sets.proofs.Refusals.{refused_by}

-- the last list is the one that is read
reading : (lists : List Deltas) (list : Deltas) → is_reading (length lists) (lists ++ list ∷ []) ≡ goes_on list
reading [] list = refl
reading (x ∷ []) list = refl
reading (x ∷ y ∷ xs) list = reading (y ∷ xs) list

-- a delta is one of the last list
adding : (lists : List Deltas) (ds : List ℤ) (delta : ℤ) → add_delta (lists ++ Some ds ∷ []) delta ≡ lists ++ Some (ds ++ delta ∷ []) ∷ []
adding [] ds delta = refl
adding (x ∷ []) ds delta = refl
adding (x ∷ y ∷ xs) ds delta = ap (λ (ls : List Deltas). x ∷ ls) (adding (y ∷ xs) ds delta)

-- the list goes on where its next scale isn't 0
goes : (lists : List Deltas) (ds : List ℤ) (next : ℕ) → next_scale ds ≡ next → (next ≡ 0 → ⊥) → is_reading (length lists) (lists ++ Some ds ∷ []) ≡ true
goes lists ds next is some = reading lists (Some ds) ∙ rw (is, ne_eqb next 0 some) refl

ends : (lists : List Deltas) (ds : List ℤ) → next_scale ds ≡ 0 → is_reading (length lists) (lists ++ Some ds ∷ []) ≡ false
ends lists ds is = reading lists (Some ds) ∙ rw is refl

-- one more delta
pub delta_more : (lists : List Deltas) (ds after : List ℤ) (delta : ℤ) (n m next : ℕ) (p q : Place) → m ≡ suc n → next_scale ds ≡ next → (next ≡ 0 → ⊥) → field_at (delta_row (length lists)) (lists ++ Some ds ∷ []) p ≡ Ok (delta, q) → after ≡ ds ++ delta ∷ [] → rows_at take_list (replicate m (delta_row (length lists))) (lists ++ Some ds ∷ []) p ≡ rows_at take_list (replicate n (delta_row (length lists))) (lists ++ Some after ∷ []) q
delta_more lists ds after delta n m next p q rest is some read pushed =
    repeat_step take_list (delta_row (length lists)) n m (lists ++ Some ds ∷ []) p delta q rest (goes lists ds next is some) read ∙ ap (λ (ls : List Deltas). rows_at take_list (replicate n (delta_row (length lists))) ls q) (adding lists ds delta ∙ ap (λ (d : List ℤ). lists ++ Some d ∷ []) (sym pushed))

-- a delta that can't be read
pub delta_none : (lists : List Deltas) (ds : List ℤ) (e : SetFault) (n m next : ℕ) (p : Place) → m ≡ suc n → next_scale ds ≡ next → (next ≡ 0 → ⊥) → field_at (delta_row (length lists)) (lists ++ Some ds ∷ []) p ≡ Err e → rows_at take_list (replicate m (delta_row (length lists))) (lists ++ Some ds ∷ []) p ≡ Err e
delta_none lists ds e n m next p rest is some read =
    repeat_stop take_list (delta_row (length lists)) n m (lists ++ Some ds ∷ []) p e rest (goes lists ds next is some) read

-- the list is over
pub delta_end : (lists : List Deltas) (ds : List ℤ) (n : ℕ) (p : Place) → next_scale ds ≡ 0 → rows_at take_list (replicate n (delta_row (length lists))) (lists ++ Some ds ∷ []) p ≡ Ok (lists ++ Some ds ∷ [], p)
delta_end lists ds n p is = repeat_absent take_list (delta_row (length lists)) n (lists ++ Some ds ∷ []) p (ends lists ds is)

pub delta_all : (lists : List Deltas) (ds : List ℤ) (n : ℕ) (p : Place) → n ≡ 0 → rows_at take_list (replicate n (delta_row (length lists))) (lists ++ Some ds ∷ []) p ≡ Ok (lists ++ Some ds ∷ [], p)
delta_all lists ds n p none = rw none (rows_none take_list (lists ++ Some ds ∷ []) p)

pub scale_more : (ds after : List ℤ) (delta : ℤ) (next : ℕ) → next_scale ds ≡ next → after ≡ ds ++ delta ∷ [] → next_scale after ≡ scale_after next delta
scale_more ds after delta next is pushed =
    ap next_scale pushed ∙ fold_push scale_after 8 ds delta ∙ ap (λ (n : ℕ). scale_after n delta) is

-- a list that is present, and one that isn't
pub list_there : (lists : List Deltas) (n : ℕ) (p q : Place) → field_at present_row lists p ≡ Ok (pos 1, q) → rows_at take_list (present_row ∷ replicate n (delta_row (length lists))) lists p ≡ rows_at take_list (replicate n (delta_row (length lists))) (lists ++ Some [] ∷ []) q
list_there lists n p q read = rows_step take_list present_row (replicate n (delta_row (length lists))) lists p (pos 1) q refl read

pub list_absent : (lists : List Deltas) (n : ℕ) (p q : Place) → field_at present_row lists p ≡ Ok (pos 0, q) → rows_at take_list (present_row ∷ replicate n (delta_row (length lists))) lists p ≡ Ok (lists ++ None ∷ [], q)
list_absent lists n p q read =
    rows_step take_list present_row (replicate n (delta_row (length lists))) lists p (pos 0) q refl read ∙ repeat_absent take_list (delta_row (length lists)) n (lists ++ None ∷ []) q (reading lists None)

pub list_stop : (lists : List Deltas) (n : ℕ) (p : Place) (e : SetFault) → field_at present_row lists p ≡ Err e → rows_at take_list (present_row ∷ replicate n (delta_row (length lists))) lists p ≡ Err e
list_stop lists n p e read = rows_stop take_list present_row (replicate n (delta_row (length lists))) lists p e refl read

-- one more list
pub lists_further : (lists after : List Deltas) (list : Deltas) (j size n m : ℕ) (p q : Place) → length lists ≡ j → size ≡ list_size j → m ≡ suc n → rows_at take_list (present_row ∷ replicate size (delta_row (length lists))) lists p ≡ Ok (lists ++ list ∷ [], q) → after ≡ lists ++ list ∷ [] → rows_at take_list (list_rows j m) lists p ≡ rows_at take_list (list_rows (j + 1) n) after q
unfolding list_rows
lists_further lists after list j size n m p q is sized rest read pushed =
    let known = rw (sized, is) at read in
    rw (rest, add-one, pushed) (after_ok take_list (present_row ∷ replicate (list_size j) (delta_row j)) (list_rows (suc j) n) lists p (lists ++ list ∷ []) q known)

-- a list that can't be read
pub lists_stop : (lists : List Deltas) (e : SetFault) (j size n m : ℕ) (p : Place) → length lists ≡ j → size ≡ list_size j → m ≡ suc n → Refuses e (rows_at take_list (present_row ∷ replicate size (delta_row (length lists))) lists p) → Refuses e (rows_at take_list (list_rows j m) lists p)
unfolding list_rows
lists_stop lists e j size n m p is sized rest fault =
    let known = rw (sized, is) at fault in
    rw rest (refused_by e (rows_at take_list (present_row ∷ replicate (list_size j) (delta_row j)) lists p) (rows_at take_list (present_row ∷ (replicate (list_size j) (delta_row j) ++ list_rows (suc j) n)) lists p) (λ h. after_err take_list (present_row ∷ replicate (list_size j) (delta_row j)) (list_rows (suc j) n) lists p e h) known)

-- no list is left
pub lists_done : (lists : List Deltas) (j n : ℕ) (p : Place) → n ≡ 0 → rows_at take_list (list_rows j n) lists p ≡ Ok (lists, p)
unfolding list_rows
lists_done lists j n p none = rw none (rows_none take_list lists p)
