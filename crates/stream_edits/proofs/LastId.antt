-- Where ids stand that differ.
use Rattle.std.proofs.Common.{◌≡◌, ℕ, suc, ◌+◌, ◌≤◌, ◌<◌, Bool, true, false, not, cond, List, [], ◌∷◌, ◌++◌, length, take, drop, get_or, Some, ap, sym, ◌∙◌, refl, arith, eqb}
use Rattle.std.proofs.Math.Dec.{ltb}
use Rattle.std.specs.Prelude.{count_by}
use Rattle.std.specs.List.{position_or_len}
use Rattle.std.proofs.lemmas.Bool.{lt-ltb}
use Rattle.std.proofs.Math.Seq.{split_at}
use Rattle.std.proofs.lemmas.List.{length-append, length-take-le}
use Rattle.std.proofs.lemmas.List.Sums.{sum_by-append, sum_by-cons}
use Rattle.picture_keys.specs.Units.{AreDifferent}
use Rattle.stream_edits.specs.Streams.{place_among}

eqb-same : (n : ℕ) → eqb n n ≡ true
eqb-same n = grind arith

-- where no item passes, none is found
none_found : (p : ℕ → Bool) (xs : List ℕ) → count_by p xs ≤ 0 → position_or_len p xs ≡ length xs
none_found p [] none = refl
none_found p (x ∷ xs) none =
    let parts = sum_by-cons {X = ℕ} (λ x. cond (p x) 1 0) x xs in
    step (p x) (none_found p xs) (omega (arith, parts, none))
  where
    step : (b : Bool) → (count_by p xs ≤ 0 → position_or_len p xs ≡ length xs) → cond b 1 0 + count_by p xs ≤ 0
        → cond (not b) (1 + position_or_len p xs) 0 ≡ suc (length xs)
    step true others none = absurd (omega arith)
    step false others none = let is = others (omega arith) in omega arith

-- where one item passes and none before it, that one is found
found_behind : (p : ℕ → Bool) (before : List ℕ) (x : ℕ) (after : List ℕ) → count_by p before ≤ 0 → p x ≡ true
    → position_or_len p (before ++ x ∷ after) ≡ length before
found_behind p [] x after none passes = rw passes refl
found_behind p (y ∷ before) x after none passes =
    let parts = sum_by-cons {X = ℕ} (λ x. cond (p x) 1 0) y before in
    step (p y) (λ fewer. found_behind p before x after fewer passes) (omega (arith, parts, none))
  where
    step : (b : Bool) → (count_by p before ≤ 0 → position_or_len p (before ++ x ∷ after) ≡ length before)
        → cond b 1 0 + count_by p before ≤ 0
        → cond (not b) (1 + position_or_len p (before ++ x ∷ after)) 0 ≡ suc (length before)
    step true others none = absurd (omega arith)
    step false others none = let is = others (omega arith) in omega arith

-- an id among ids that differ stands behind all before it
pub among : (before : List ℕ) (id : ℕ) (after : List ℕ) → AreDifferent (before ++ id ∷ after)
    → Some (length before) ≡ place_among (before ++ id ∷ after) id
unfolding place_among
among before id after different =
    let p : ℕ → Bool = λ other. eqb other id in
    let same : p id ≡ true = eqb-same id in
    let count = sum_by-append (λ other. cond (eqb other id) 1 0) before (id ∷ after) in
    let rest = sum_by-cons {X = ℕ} (λ other. cond (eqb other id) 1 0) id after in
    let once = different id in
    let none : count_by p before ≤ 0 = omega (arith, count, rest, once, ap {B = ℕ} (λ b. cond b 1 0) same) in
    let found : position_or_len p (before ++ id ∷ after) ≡ length before = found_behind p before id after none same in
    let within : ltb (length before) (length (before ++ id ∷ after)) ≡ true =
    lt-ltb (length before) (length (before ++ id ∷ after)) (omega (arith, length-append before (id ∷ after))) in
    rw (found, within) refl

-- the last of ids that differ stands behind all others
pub last_among : (others : List ℕ) (last : ℕ) → AreDifferent (others ++ last ∷ []) → Some (length others) ≡ place_among (others ++ last ∷ []) last
last_among others last different = among others last [] different

-- the id at a place among ids that differ is found there
pub found_at : (ids : List ℕ) (at d : ℕ) → at < length ids → AreDifferent ids → Some at ≡ place_among ids (get_or ids at d)
found_at ids at d within different =
    let parts = split_at ids at d within in
    let before : length (take at ids) ≡ at = length-take-le at ids (omega (arith, within)) in
    ap Some (sym before) ∙ within_parts ids (take at ids) (get_or ids at d) (drop (suc at) ids) parts different
  where
    within_parts : (ids before : List ℕ) (id : ℕ) (after : List ℕ) → ids ≡ before ++ id ∷ after → AreDifferent ids
        → Some (length before) ≡ place_among ids id
    within_parts ids before id after parts different = rw parts (among before id after (rw parts at different))
