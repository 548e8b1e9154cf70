-- A frame put into a list: it stands there once, and the list keeps its length.
use Rattle.std.proofs.Common.{◌≡◌, ℕ, suc, ◌+◌, ◌-◌, ◌<◌, ◌≤◌, ⊎_elim, Bool, true, false, not, cond, nat_lt, List, [], ◌∷◌, ◌++◌, length, take, drop, filter, count_by, position, insert, remove, Option, Some, None, refl, sym, ap, ◌∙◌, arith, one-add, zero-add, length-append}
use Rattle.std.specs.List.{position_or_len}
use Rattle.std.proofs.lemmas.List.Sums.{sum_by-cons, sum_by-take-drop}
use Rattle.std.proofs.lemmas.List.Filters.{length-filter_both, sum_by-filter_both}
use Rattle.std.proofs.lemmas.List.Sums.{length-filter}
use Rattle.std.proofs.lemmas.Bool.{cases_Bool, ltb-true, ltb-false}
use Rattle.std.proofs.lemmas.List.{take-append-drop, length-take, length-drop, take_at, drop_at, take_all, drop_all, length-take-le, append-nil}
use Rattle.std.proofs.lemmas.List.Edits.{remove-append_right, length-remove}
use Rattle.std.proofs.Math.Seq.{take-append-add, drop-append-add}
use Rattle.slice_decoding.specs.Modification.{is_entry_of, put}

module _ {X : Type 0} (p : X → Bool) where
  abbrev pub without : List X → List X
  without xs = filter (λ x. not (p x)) xs

  pub count_by-pass : (x : X) (xs : List X) → p x ≡ true → count_by p (x ∷ xs) ≡ 1 + count_by p xs
  count_by-pass x xs passes = sum_by-cons (λ (y : X). cond (p y) 1 0) x xs ∙ ap (λ (b : Bool). cond b 1 0 + count_by p xs) passes

  pub count_by-fail : (x : X) (xs : List X) → p x ≡ false → count_by p (x ∷ xs) ≡ count_by p xs
  count_by-fail x xs fails = sum_by-cons (λ (y : X). cond (p y) 1 0) x xs ∙ ap (λ (b : Bool). cond b 1 0 + count_by p xs) fails ∙ zero-add (count_by p xs)

  without-pass : (x : X) (xs : List X) → p x ≡ true → without (x ∷ xs) ≡ without xs
  without-pass x xs passes = rw passes refl

  without-fail : (x : X) (xs : List X) → p x ≡ false → without (x ∷ xs) ≡ x ∷ without xs
  without-fail x xs fails = rw fails refl

  position-pass : (x : X) (xs : List X) → p x ≡ true → position_or_len p (x ∷ xs) ≡ 0
  position-pass x xs passes = rw passes refl

  position-fail : (x : X) (xs : List X) → p x ≡ false → position_or_len p (x ∷ xs) ≡ suc (position_or_len p xs)
  position-fail x xs fails = rw fails (one-add (position_or_len p xs))

  without_none : (xs : List X) → count_by p xs ≡ 0 → without xs ≡ xs
  without_none [] none = refl
  without_none (x ∷ xs) none = ⊎_elim
      (λ passes. absurd (omega (arith, count_by-pass x xs passes)))
      (λ fails. without-fail x xs fails ∙ ap (λ l. x ∷ l) (without_none xs (sym (count_by-fail x xs fails) ∙ none)))
      (cases_Bool (p x))

  -- where one passes, it is the first that does
  without_one : (xs : List X) → count_by p xs ≤ 1 → position_or_len p xs < length xs → without xs ≡ remove xs (position_or_len p xs)
  without_one [] once there = absurd (omega arith)
  without_one (x ∷ xs) once there = ⊎_elim
      (λ passes.
      let none = without_none xs (omega (arith, count_by-pass x xs passes)) in
      without-pass x xs passes ∙ none ∙ ap (remove (x ∷ xs)) (sym (position-pass x xs passes)))
      (λ fails.
      let rest = without_one xs (omega (arith, count_by-fail x xs fails)) (omega (arith, position-fail x xs fails)) in
      without-fail x xs fails ∙ ap (λ l. x ∷ l) rest ∙ ap (remove (x ∷ xs)) (sym (position-fail x xs fails)))
      (cases_Bool (p x))

  without_missing : (xs : List X) → length xs ≤ position_or_len p xs → without xs ≡ xs
  without_missing [] missing = refl
  without_missing (x ∷ xs) missing = ⊎_elim
      (λ passes. absurd (omega (arith, position-pass x xs passes)))
      (λ fails. without-fail x xs fails ∙ ap (λ l. x ∷ l) (without_missing xs (omega (arith, position-fail x xs fails))))
      (cases_Bool (p x))

  -- whether one passes, and where the first does
  pub position-Some : (xs : List X) (k : ℕ) → position p xs ≡ Some k → (k ≡ position_or_len p xs) × (position_or_len p xs < length xs)
  position-Some xs k found = ⊎_elim
      (λ below. let is : Some (position_or_len p xs) ≡ Some k = rw below at found in (cc, ltb-true (position_or_len p xs) (length xs) below))
      (λ past. let none : None ≡ Some k = rw past at found in cc)
      (cases_Bool (nat_lt (position_or_len p xs) (length xs)))

  pub position-None : (xs : List X) → position p xs ≡ None → length xs ≤ position_or_len p xs
  position-None xs missing = ⊎_elim
      (λ below. let some : Some (position_or_len p xs) ≡ None = rw below at missing in cc)
      (λ past. ltb-false (position_or_len p xs) (length xs) past)
      (cases_Bool (nat_lt (position_or_len p xs) (length xs)))

  length-without : (xs : List X) → length (without xs) + count_by p xs ≡ length xs
  length-without xs = omega (arith, length-filter_both p (λ x. not (p x)) (λ x. refl) xs, length-filter p xs)

  -- no element stands more often than before where some are left out
  count_by-take_without : (q : X → Bool) (count : ℕ) (xs : List X) → count_by q (take count (without xs)) ≤ count_by q xs
  count_by-take_without q count xs =
      omega (arith, sum_by-take-drop (λ (x : X). cond (q x) 1 0) (without xs) count, sum_by-filter_both p (λ x. not (p x)) (λ x. refl) (λ (x : X). cond (q x) 1 0) xs)

-- into a list at an index: the entries before it, the new one, and those after it
insert_between : {X : Type 0} (front rest : List X) (index : ℕ) (x : X) → length front ≡ index → insert (front ++ rest) index x ≡ front ++ x ∷ rest
insert_between front rest index x long = rw (take_at front rest index long, drop_at front rest index long) refl

remove_after : {X : Type 0} (front rest : List X) (index k : ℕ) → length front ≡ index → remove (front ++ rest) (index + k) ≡ front ++ remove rest k
remove_after front rest index k long =
    let same : index + k - index ≡ k = omega arith in
    remove-append_right front rest index (index + k) long (omega arith) ∙ ap (λ i. front ++ remove rest i) same

remove_last : {X : Type 0} (rest : List X) (last : ℕ) → length rest ≡ suc last → remove rest last ≡ take last rest
remove_last rest last long = rw (drop_all (suc last) rest (omega arith), append-nil) refl

module _ (index place : ℕ) (entries : List (Option ℕ)) (inside : index < length entries) where
  abbrev front : List (Option ℕ)
  front = take index entries

  abbrev pub rest : List (Option ℕ)
  rest = drop index entries

  abbrev pub is : Option ℕ → Bool
  is = is_entry_of place

  split : front ++ rest ≡ entries
  split = take-append-drop index entries

  long_front : length front ≡ index
  long_front = length-take-le index entries (omega arith)

  long_rest : index + length rest ≡ length entries
  long_rest = omega (arith, length-drop index entries)

  -- what stands in the list from the index on
  put-after : put index place entries ≡ front ++ take (length rest) (Some place ∷ without is rest)
  put-after =
      let long : length front + length rest ≡ length entries = omega (arith, long_front, long_rest) in
      ap (λ n. take n (front ++ Some place ∷ without is rest)) (sym long) ∙ take-append-add front (Some place ∷ without is rest) (length rest)

  pub length-put : count_by is rest ≤ 1 → length (put index place entries) ≡ length entries
  length-put once =
      ap length put-after ∙ omega (
        arith,
        length-append front (take (length rest) (Some place ∷ without is rest)),
        long_front,
        long_rest,
        length-take (length rest) (Some place ∷ without is rest),
        length-without is rest,
      )

  -- no frame stands after the index more often than it stood there before
  pub count_by-put : (q : Option ℕ → Bool) → count_by q (drop (index + 1) (put index place entries)) ≤ count_by q rest
  count_by-put q =
      let last = length rest - 1 in
      let some : length rest ≡ suc last = omega (arith, long_rest) in
      let entered = take (length rest) (Some place ∷ without is rest) in
      let after : drop (index + 1) (put index place entries) ≡ take last (without is rest) =
      ap (drop (index + 1)) put-after ∙ ap (λ n. drop (n + 1) (front ++ entered)) (sym long_front) ∙ drop-append-add front entered 1
      ∙ ap (λ n. drop 1 (take n (Some place ∷ without is rest))) some in
      rw after (count_by-take_without is q last rest)

  -- the frame stood there
  pub put-moved : count_by is rest ≤ 1 → position_or_len is rest < length rest
      → insert (remove entries (index + position_or_len is rest)) index (Some place) ≡ put index place entries
  put-moved once there =
      let k = position_or_len is rest in
      let out : remove entries (index + k) ≡ front ++ remove rest k = ap (λ l. remove l (index + k)) (sym split) ∙ remove_after front rest index k long_front in
      let shorter = length-remove rest k there in
      ap (λ l. insert l index (Some place)) out ∙ insert_between front (remove rest k) index (Some place) long_front
      ∙ ap (λ l. front ++ l) (sym (take_all (length rest) (Some place ∷ remove rest k) (omega arith)))
      ∙ ap (λ l. front ++ take (length rest) (Some place ∷ l)) (sym (without_one is rest once there)) ∙ sym put-after

  -- it didn't, and the last entry falls out
  pub put-added : length rest ≤ position_or_len is rest → insert (remove entries (length entries - 1)) index (Some place) ≡ put index place entries
  put-added missing =
      let last = length rest - 1 in
      let some : length rest ≡ suc last = omega (arith, long_rest) in
      let end : length entries - 1 ≡ index + last = omega (arith, long_rest) in
      let out : remove entries (length entries - 1) ≡ front ++ take last rest =
      ap (remove entries) end ∙ ap (λ l. remove l (index + last)) (sym split) ∙ remove_after front rest index last long_front
      ∙ ap (λ l. front ++ l) (remove_last rest last some) in
      ap (λ l. insert l index (Some place)) out ∙ insert_between front (take last rest) index (Some place) long_front
      ∙ ap (λ n. front ++ take n (Some place ∷ rest)) (sym some)
      ∙ ap (λ l. front ++ take (length rest) (Some place ∷ l)) (sym (without_missing is rest missing)) ∙ sym put-after
