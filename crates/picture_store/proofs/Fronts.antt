-- The keys of a stream's units, of the first ones and of those after them.
use Rattle.std.proofs.Common.{◌≡◌, refl, ap, sym, ◌∙◌, add-one, ℕ, zero, suc, ◌+◌, ◌<◌, ◌≤◌, List, [], ◌∷◌, ◌++◌, length, take, drop, get_or, Option, arith}
use Rattle.std.specs.List.{zip}
use Rattle.unit_outcomes.specs.declared.outcome.Outcome.{Outcome}
use Rattle.decode_jobs.specs.Keys.{Key}
use Rattle.picture_keys.specs.Known.{Known, key_of_outcome, known_with, known_after, keys_after}
use Rattle.picture_keys.specs.Numbered.{AllStandFor}
use Rattle.picture_store.specs.Stored.{Trees}
use Rattle.picture_store.specs.Needs.{between}
use Rattle.picture_store.proofs.Loops.{zip_read}

-- two lists end to end, pair by pair
pub zip_append : {A B : Type 0} (xs more : List A) (ys others : List B) → length xs ≡ length ys
    → zip (xs ++ more) (ys ++ others) ≡ zip xs ys ++ zip more others
zip_append [] more [] others same = refl
zip_append [] more (y ∷ ys) others same = absurd (omega (arith, same))
zip_append (x ∷ xs) more [] others same = absurd (omega (arith, same))
zip_append (x ∷ xs) more (y ∷ ys) others same =
    ap (λ zs. (x, y) ∷ zs) (zip_append xs more ys others (omega (arith, same)))

-- what is known after units, and after more
pub known_append : (known : Known) (units more : List (ℕ × Outcome))
    → known_after known (units ++ more) ≡ known_after (known_after known units) more
known_append known [] more = refl
known_append known (unit ∷ units) more =
    known_append (known_with known unit.0 (key_of_outcome known unit.1)) units more

-- the keys of units, and of more
pub keys_append : (known : Known) (units more : List (ℕ × Outcome))
    → keys_after known (units ++ more) ≡ keys_after known units ++ keys_after (known_after known units) more
keys_append known [] more = refl
keys_append known (unit ∷ units) more =
    ap (λ keys. key_of_outcome known unit.1 ∷ keys)
    (keys_append (known_with known unit.0 (key_of_outcome known unit.1)) units more)

-- numbers and more stand for keys and more
pub stand_append : (keys : Trees) (numbers later : List (Option ℕ)) (trees more : List (Option Key))
    → AllStandFor keys numbers trees → AllStandFor keys later more → AllStandFor keys (numbers ++ later) (trees ++ more)
stand_append keys [] later [] more all others = others
stand_append keys [] later (tree ∷ trees) more all others = absurd all
stand_append keys (number ∷ numbers) later [] more all others = absurd all
stand_append keys (number ∷ numbers) later (tree ∷ trees) more all others =
    (all.0, stand_append keys numbers later trees more all.1 others)

-- the numbers of the first units stand for their keys
pub stand_front : (keys : Trees) (known : Known) (n : ℕ) (numbers : List (Option ℕ)) (ids : List ℕ) (outcomes : List Outcome)
    → AllStandFor keys numbers (keys_after known (zip ids outcomes))
    → AllStandFor keys (take n numbers) (keys_after known (zip (take n ids) (take n outcomes)))
stand_front keys known zero numbers ids outcomes all = tt
stand_front keys known (suc n) [] [] outcomes all = tt
stand_front keys known (suc n) [] (id ∷ ids) [] all = tt
stand_front keys known (suc n) [] (id ∷ ids) (outcome ∷ outcomes) all = absurd all
stand_front keys known (suc n) (number ∷ numbers) [] outcomes all = absurd all
stand_front keys known (suc n) (number ∷ numbers) (id ∷ ids) [] all = absurd all
stand_front keys known (suc n) (number ∷ numbers) (id ∷ ids) (outcome ∷ outcomes) all =
    (all.0, stand_front keys (known_with known id (key_of_outcome known outcome)) n numbers ids outcomes all.1)

-- and those of the others, after the first ones
pub stand_behind : (keys : Trees) (known : Known) (n : ℕ) (numbers : List (Option ℕ)) (ids : List ℕ) (outcomes : List Outcome)
    → AllStandFor keys numbers (keys_after known (zip ids outcomes)) → length ids ≡ length outcomes
    → AllStandFor keys (drop n numbers)
    (keys_after (known_after known (zip (take n ids) (take n outcomes))) (zip (drop n ids) (drop n outcomes)))
stand_behind keys known zero numbers ids outcomes all same = all
stand_behind keys known (suc n) [] [] outcomes all same = tt
stand_behind keys known (suc n) [] (id ∷ ids) [] all same = absurd (omega (arith, same))
stand_behind keys known (suc n) [] (id ∷ ids) (outcome ∷ outcomes) all same = absurd all
stand_behind keys known (suc n) (number ∷ numbers) [] outcomes all same = absurd all
stand_behind keys known (suc n) (number ∷ numbers) (id ∷ ids) [] all same = absurd all
stand_behind keys known (suc n) (number ∷ numbers) (id ∷ ids) (outcome ∷ outcomes) all same =
    stand_behind keys (known_with known id (key_of_outcome known outcome)) n numbers ids outcomes all.1 (omega (arith, same))

-- the units from a place on, pair by pair
pub zip_behind : {A B : Type 0} (n : ℕ) (xs : List A) (ys : List B) → length xs ≡ length ys
    → drop n (zip xs ys) ≡ zip (drop n xs) (drop n ys)
zip_behind zero xs ys same = refl
zip_behind (suc n) [] [] same = refl
zip_behind (suc n) [] (y ∷ ys) same = absurd (omega (arith, same))
zip_behind (suc n) (x ∷ xs) [] same = absurd (omega (arith, same))
zip_behind (suc n) (x ∷ xs) (y ∷ ys) same = zip_behind n xs ys (omega (arith, same))

-- as many numbers as units
pub stand_length : (keys : Trees) (known : Known) (numbers : List (Option ℕ)) (ids : List ℕ) (outcomes : List Outcome)
    → AllStandFor keys numbers (keys_after known (zip ids outcomes)) → length ids ≡ length outcomes → length numbers ≡ length ids
stand_length keys known [] [] outcomes all same = refl
stand_length keys known [] (id ∷ ids) [] all same = absurd (omega (arith, same))
stand_length keys known [] (id ∷ ids) (outcome ∷ outcomes) all same = absurd all
stand_length keys known (number ∷ numbers) [] outcomes all same = absurd all
stand_length keys known (number ∷ numbers) (id ∷ ids) [] all same = absurd all
stand_length keys known (number ∷ numbers) (id ∷ ids) (outcome ∷ outcomes) all same =
    ap suc (stand_length keys (known_with known id (key_of_outcome known outcome)) numbers ids outcomes all.1 (omega (arith, same)))

zip_none : (ids : List ℕ) → ◌≡◌ {A = List (ℕ × Outcome)} (zip ids []) []
zip_none [] = refl
zip_none (id ∷ ids) = refl

-- between a place and itself is no unit
pub between_none : (to : ℕ) (ids : List ℕ) (outcomes : List Outcome) → between to to ids outcomes ≡ []
between_none zero ids outcomes = refl
between_none (suc to) [] outcomes = refl
between_none (suc to) (id ∷ ids) [] = zip_none (drop (suc to) (take (suc to) (id ∷ ids)))
between_none (suc to) (id ∷ ids) (outcome ∷ outcomes) = between_none to ids outcomes

between_next : (to at : ℕ) (ids : List ℕ) (outcomes : List Outcome) (id : ℕ) (outcome : Outcome) → to ≤ at → at < length ids
    → at < length outcomes → id ≡ get_or ids at id → outcome ≡ get_or outcomes at outcome
    → between to (suc at) ids outcomes ≡ between to at ids outcomes ++ (id, outcome) ∷ []
between_next zero at ids outcomes id outcome below in_ids in_outcomes id_is outcome_is =
    ap (λ n. zip (take n ids) (take n outcomes)) (sym (add-one at))
    ∙ zip_read ids outcomes at id outcome in_ids in_outcomes id_is outcome_is
between_next (suc to) zero ids outcomes id outcome below in_ids in_outcomes id_is outcome_is = absurd (omega (arith, below))
between_next (suc to) (suc at) [] outcomes id outcome below in_ids in_outcomes id_is outcome_is = absurd (omega (arith, in_ids))
between_next (suc to) (suc at) (first ∷ ids) [] id outcome below in_ids in_outcomes id_is outcome_is =
    absurd (omega (arith, in_outcomes))
between_next (suc to) (suc at) (first ∷ ids) (one ∷ outcomes) id outcome below in_ids in_outcomes id_is outcome_is =
    between_next to at ids outcomes id outcome (omega (arith, below)) (omega (arith, in_ids)) (omega (arith, in_outcomes)) id_is
    outcome_is

-- one unit more
pub between_more : (to at : ℕ) (ids : List ℕ) (outcomes : List Outcome) (id : ℕ) (outcome : Outcome) → to ≤ at → at < length ids
    → at < length outcomes → id ≡ get_or ids at id → outcome ≡ get_or outcomes at outcome
    → between to (at + 1) ids outcomes ≡ between to at ids outcomes ++ (id, outcome) ∷ []
between_more to at ids outcomes id outcome below in_ids in_outcomes id_is outcome_is =
    ap (λ n. between to n ids outcomes) (add-one at)
    ∙ between_next to at ids outcomes id outcome below in_ids in_outcomes id_is outcome_is

-- and those after it
pub between_rest : (to past : ℕ) (ids : List ℕ) (outcomes : List Outcome) → to ≤ past → length ids ≡ length outcomes
    → zip (drop to ids) (drop to outcomes) ≡ between to past ids outcomes ++ zip (drop past ids) (drop past outcomes)
between_rest zero zero ids outcomes below same = refl
between_rest zero (suc past) [] [] below same = refl
between_rest zero (suc past) [] (outcome ∷ outcomes) below same = absurd (omega (arith, same))
between_rest zero (suc past) (id ∷ ids) [] below same = absurd (omega (arith, same))
between_rest zero (suc past) (id ∷ ids) (outcome ∷ outcomes) below same =
    ap (λ rest. (id, outcome) ∷ rest) (between_rest zero past ids outcomes (omega arith) (omega (arith, same)))
between_rest (suc to) zero ids outcomes below same = absurd (omega (arith, below))
between_rest (suc to) (suc past) [] [] below same = refl
between_rest (suc to) (suc past) [] (outcome ∷ outcomes) below same = absurd (omega (arith, same))
between_rest (suc to) (suc past) (id ∷ ids) [] below same = absurd (omega (arith, same))
between_rest (suc to) (suc past) (id ∷ ids) (outcome ∷ outcomes) below same =
    between_rest to past ids outcomes (omega (arith, below)) (omega (arith, same))
