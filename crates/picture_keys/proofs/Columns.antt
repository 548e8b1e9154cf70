-- The numbers of units that stand in columns.
use Rattle.std.proofs.Common.{◌≡◌, refl, ap, sym, ◌∙◌, subst, ℕ, zero, suc, ◌<◌, ◌≤◌, ◌==◌, Bool, true, false, List, [], ◌∷◌, ◌++◌, length, take, get_or, Option, None, Some, is_some, ◌-◌, if◌then◌else◌, arith, min}
use Rattle.std.proofs.lemmas.Grind.{common_steps}
use Rattle.std.specs.List.{zip}
use Rattle.std.specs.Ordering.{nat_cmp, is_eq}
use Rattle.std.specs.BTreeMap.{is_at}
use Rattle.h264_controls.specs.declared.request.RequestBody.{RequestBody}
use Rattle.unit_outcomes.specs.declared.outcome.Outcome.{Outcome}
use Rattle.decode_jobs.specs.KeyMaps.{KeyMap}
use Rattle.decode_jobs.specs.Keys.{Key}
use Rattle.picture_keys.specs.Known.{Known, key_of_outcome, known_with, known_after, keys_after}
use Rattle.picture_keys.specs.Numbered.{Numbers, number_at, numbers_over, numbers_with, StandsFor, AreNumbered, AllStandFor}
use Rattle.picture_keys.proofs.Numbering.{numbered_with}

-- the first of two that is there
abbrev pub first_of : Option ℕ → Option ℕ → Option ℕ
first_of None other = other
first_of (Some number) other = Some number

first_if : (test : Bool) (number : ℕ) (one other : Option ℕ)
    → first_of (if test then Some number else one) other ≡ (if test then Some number else first_of one other)
first_if true number one other = refl
first_if false number one other = refl

-- the number of a unit that stands in one of two lists
pub number_joined : (first second : Numbers) (id : ℕ)
    → number_at (first ++ second) id ≡ first_of (number_at first id) (number_at second id)
number_joined [] second id = refl
number_joined (unit ∷ first) second id =
    ap (λ rest. if is_at (nat_cmp id) unit.0 then Some unit.1 else rest) (number_joined first second id)
    ∙ sym (first_if (is_at (nat_cmp id) unit.0) unit.1 (number_at first id) (number_at second id))

-- one unit more in front of others
pub put_joined : (old new others : Numbers) (id key : ℕ)
    → ((other : ℕ) → number_at new other ≡ (if id == other then Some key else number_at old other))
    → (other : ℕ) → number_at (new ++ others) other ≡ (if id == other then Some key else number_at (old ++ others) other)
put_joined old new others id key put other =
    number_joined new others other
    ∙ (ap (λ number. first_of number (number_at others other)) (put other)
    ∙ (first_if (id == other) key (number_at old other) (number_at others other)
    ∙ ap (λ rest. if id == other then Some key else rest) (sym (number_joined old others other))))

-- no unit more where one of the columns ends
pub over_all : (numbers : Numbers) (ids : List ℕ) (found : List (Option ℕ)) (n : ℕ) → min (length ids) (length found) ≤ n
    → numbers_over numbers (take n ids) (take n found) ≡ numbers_over numbers ids found
over_all numbers [] found zero enough = refl
over_all numbers [] found (suc n) enough = refl
over_all numbers (id ∷ ids) [] zero enough = refl
over_all numbers (id ∷ ids) [] (suc n) enough = refl
over_all numbers (id ∷ ids) (number ∷ found) zero enough = absurd (omega (arith, enough))
over_all numbers (id ∷ ids) (None ∷ found) (suc n) enough = over_all numbers ids found n (omega (arith, enough))
over_all numbers (id ∷ ids) (Some number ∷ found) (suc n) enough =
    over_all ((id, number) ∷ numbers) ids found n (omega (arith, enough))

-- the columns up to one unit more
pub over_more : (numbers : Numbers) (ids : List ℕ) (found : List (Option ℕ)) (at id : ℕ) (number : Option ℕ)
    → at < length ids → at < length found → id ≡ get_or ids at id → number ≡ get_or found at number
    → numbers_over numbers (take (suc at) ids) (take (suc at) found)
    ≡ numbers_with id number (numbers_over numbers (take at ids) (take at found))
over_more numbers [] found at id number in_ids in_found id_is number_is = absurd (omega (arith, in_ids))
over_more numbers (first ∷ ids) [] at id number in_ids in_found id_is number_is = absurd (omega (arith, in_found))
over_more numbers (first ∷ ids) (None ∷ found) zero id number in_ids in_found id_is number_is =
    sym (ap (λ n. numbers_with id n numbers) number_is)
over_more numbers (first ∷ ids) (Some one ∷ found) zero id number in_ids in_found id_is number_is =
    sym (ap (λ n. numbers_with id n numbers) number_is ∙ ap (λ i. (i, one) ∷ numbers) id_is)
over_more numbers (first ∷ ids) (None ∷ found) (suc at) id number in_ids in_found id_is number_is =
    over_more numbers ids found at id number (omega (arith, in_ids)) (omega (arith, in_found)) id_is number_is
over_more numbers (first ∷ ids) (Some one ∷ found) (suc at) id number in_ids in_found id_is number_is =
    over_more ((first, one) ∷ numbers) ids found at id number (omega (arith, in_ids)) (omega (arith, in_found)) id_is number_is

-- whether a unit has an id
pub test_at : (id other : ℕ) → is_at (nat_cmp id) other ≡ (id == other)
test_at id other = grind (arith, common_steps)

cmp_same : (id one : ℕ) → one ≡ id → is_eq (nat_cmp id one) ≡ true
cmp_same id one same = grind (arith, common_steps, same)

cmp_other : (id one : ℕ) → (one ≡ id → ⊥) → is_eq (nat_cmp id one) ≡ false
cmp_other id one other = grind (arith, common_steps, other)

-- the unit has the id and a number
pub with_here : (id one : ℕ) (number : Option ℕ) (numbers : Numbers) → one ≡ id → is_some number ≡ true
    → number_at (numbers_with one number numbers) id ≡ number
with_here id one None numbers same some = absurd cc
with_here id one (Some number) numbers same some =
    ap (λ test. if test then Some number else number_at numbers id) (cmp_same id one same)

-- it has another id
with_other : (id one : ℕ) (number : Option ℕ) (numbers : Numbers) → (one ≡ id → ⊥)
    → number_at (numbers_with one number numbers) id ≡ number_at numbers id
with_other id one None numbers other = refl
with_other id one (Some number) numbers other =
    ap (λ test. if test then Some number else number_at numbers id) (cmp_other id one other)

-- it has no number
with_none : (id one : ℕ) (number : Option ℕ) (numbers : Numbers) → is_some number ≡ false
    → number_at (numbers_with one number numbers) id ≡ number_at numbers id
with_none id one None numbers none = refl
with_none id one (Some number) numbers none = absurd cc

module _ (ids : List ℕ) (found : List (Option ℕ)) (at id one : ℕ) (number : Option ℕ) (some : 0 < at) (in_ids : at ≤ length ids)
    (in_found : at ≤ length found) (one_is : one ≡ get_or ids (at - 1) one) (number_is : number ≡ get_or found (at - 1) number) where
  up_to : numbers_over [] (take at ids) (take at found) ≡ numbers_with one number (numbers_over [] (take (at - 1) ids) (take (at - 1) found))
  up_to =
      let next : suc (at - 1) ≡ at = omega arith in
      subst (λ n. numbers_over [] (take n ids) (take n found) ≡ numbers_with one number (numbers_over [] (take (at - 1) ids) (take (at - 1) found)))
      next (over_more [] ids found (at - 1) one number (omega arith) (omega arith) one_is number_is)

  module _ (so_far : number_at (numbers_over [] ids found) id ≡ number_at (numbers_over [] (take at ids) (take at found)) id) where
    pub is_here : one ≡ id → is_some number ≡ true → number ≡ number_at (numbers_over [] ids found) id
    is_here same is =
        sym (so_far ∙ (ap (λ numbers. number_at numbers id) up_to
        ∙ with_here id one number (numbers_over [] (take (at - 1) ids) (take (at - 1) found)) same is))

    pub is_other : (one ≡ id → ⊥)
        → number_at (numbers_over [] ids found) id ≡ number_at (numbers_over [] (take (at - 1) ids) (take (at - 1) found)) id
    is_other other =
        so_far ∙ (ap (λ numbers. number_at numbers id) up_to
        ∙ with_other id one number (numbers_over [] (take (at - 1) ids) (take (at - 1) found)) other)

    pub is_none : is_some number ≡ false
        → number_at (numbers_over [] ids found) id ≡ number_at (numbers_over [] (take (at - 1) ids) (take (at - 1) found)) id
    is_none none =
        so_far ∙ (ap (λ numbers. number_at numbers id) up_to
        ∙ with_none id one number (numbers_over [] (take (at - 1) ids) (take (at - 1) found)) none)

-- numbers that stand for what is known go on doing so over units whose numbers stand for their keys
module _ (keys : KeyMap (List RequestBody)) where
  pub numbered_over : (numbers : Numbers) (known : Known) (ids : List ℕ) (found : List (Option ℕ)) (outcomes : List Outcome)
      → AreNumbered keys numbers known → AllStandFor keys found (keys_after known (zip ids outcomes))
      → length ids ≡ length outcomes → AreNumbered keys (numbers_over numbers ids found) (known_after known (zip ids outcomes))
  numbered_over numbers known [] found [] are stand same = are
  numbered_over numbers known [] found (outcome ∷ outcomes) are stand same = absurd (omega (arith, same))
  numbered_over numbers known (id ∷ ids) found [] are stand same = absurd (omega (arith, same))
  numbered_over numbers known (id ∷ ids) [] (outcome ∷ outcomes) are stand same = absurd stand
  numbered_over numbers known (id ∷ ids) (None ∷ found) (outcome ∷ outcomes) are stand same =
      numbered_over numbers (known_with known id (key_of_outcome known outcome)) ids found outcomes
      (subst (λ key. AreNumbered keys numbers (known_with known id key)) (sym stand.0) are) stand.1 (omega (arith, same))
  numbered_over numbers known (id ∷ ids) (Some number ∷ found) (outcome ∷ outcomes) are stand same =
      numbered_over ((id, number) ∷ numbers) (known_with known id (key_of_outcome known outcome)) ids found outcomes
      (with_number numbers known id number (key_of_outcome known outcome) are stand.0) stand.1 (omega (arith, same))
    where
      test_same : (other id : ℕ) → is_eq (nat_cmp other id) ≡ (id == other)
      test_same other id = grind (arith, common_steps)

      with_number : (numbers : Numbers) (known : Known) (id number : ℕ) (key : Option Key) → AreNumbered keys numbers known
          → StandsFor keys (Some number) key → AreNumbered keys ((id, number) ∷ numbers) (known_with known id key)
      with_number numbers known id number None are stands = absurd stands
      with_number numbers known id number (Some key) are stands =
          numbered_with keys numbers ((id, number) ∷ numbers) known id number key are stands
          (λ other. ap (λ test. if test then Some number else number_at numbers other) (test_same other id))

-- a unit that stands in the first of two lists
pub in_first : (first second : Numbers) (id number : ℕ) → number_at first id ≡ Some number
    → Some number ≡ number_at (first ++ second) id
in_first first second id number is =
    sym (number_joined first second id ∙ ap (λ n. first_of n (number_at second id)) is)

-- and one that doesn't
pub in_second : (first second : Numbers) (id : ℕ) → number_at first id ≡ None
    → number_at second id ≡ number_at (first ++ second) id
in_second first second id none =
    sym (number_joined first second id ∙ ap (λ n. first_of n (number_at second id)) none)

-- one unit more where the others have the same numbers
pub with_alike : (numbers others : Numbers) (id : ℕ) (number : Option ℕ)
    → ((other : ℕ) → number_at numbers other ≡ number_at others other)
    → (other : ℕ) → number_at (numbers_with id number numbers) other ≡ number_at (numbers_with id number others) other
with_alike numbers others id None same other = same other
with_alike numbers others id (Some number) same other =
    ap (λ rest. if is_at (nat_cmp other) id then Some number else rest) (same other)
