-- Ids that rise stand once each.
use Rattle.std.proofs.Common.{◌≡◌, ◌≢◌, ◌↔◌, ◌⊎◌, ℕ, Bool, zero, suc, ◌+◌, ◌<◌, ◌≤◌, true, false, cond, List, [], ◌∷◌, ◌++◌, length, get_or, take, ⊎_elim, inl, inr, ap, sym, ◌∙◌, arith, add-one, eqb}
use Rattle.std.specs.List.Sorted.{IsNonDecreasing, IsPermutation}
use Rattle.std.proofs.Math.Dec.{leb}
use Rattle.std.proofs.lemmas.Bool.{le-leb, leb-true}
use Rattle.std.proofs.lemmas.Bool.Decides.{eqb_tells}
use Rattle.std.proofs.lemmas.List.{take_all, take_more}
use Rattle.std.proofs.lemmas.List.Sorted.{sum_by-IsPermutation}
use Rattle.std.proofs.lemmas.List.Sums.{get_or-le-sum_by, sum_by_more, sum_by_push, sum_by-take-le}
use Rattle.stream_edits.specs.SnapshotsIds.{AreIds, times}

-- the ids in front of a place rise to the last of them, which is 0 where there is none
pub record HasRisen (ids : List ℕ) (at last : ℕ) : Type 0 where
  pub are : AreIds (take at ids) last
  pub last_is : last ≡ get_or (0 ∷ ids) at 0

-- none, or one at least
none_or_some : (n : ℕ) → (n ≤ 0) ⊎ (0 < n)
none_or_some zero = inl (omega arith)
none_or_some (suc n) = inr (omega arith)

-- an id is counted as itself
eqb-same : (n : ℕ) → eqb n n ≡ true
eqb-same n = grind arith

abbrev once_if : ℕ → ℕ → ℕ
once_if id other = cond (eqb other id) 1 0

counted : (id other : ℕ) → other ≡ id → once_if id other ≡ 1
counted id other is = ap (once_if id) is ∙ ap {B = ℕ} (λ b. cond b 1 0) (eqb-same id)

-- an id at a place is there
there : (ids : List ℕ) (at id : ℕ) → at < length ids → get_or ids at 0 ≡ id → 0 < times ids id
there ids at id within is =
    omega (arith, counted id (get_or ids at 0) is, get_or-le-sum_by (once_if id) ids at 0 within)

-- one at two places in turn is there twice
there_twice : (ids : List ℕ) (at id : ℕ) → suc at < length ids → get_or ids at 0 ≡ id → get_or ids (suc at) 0 ≡ id → 1 < times ids id
there_twice ids at id within first second =
    let one = sum_by_more (once_if id) ids at 0 (omega (arith, within)) in
    let more = sum_by_more (once_if id) ids (at + 1) 0 (omega (arith, within)) in
    let next : get_or ids (at + 1) 0 ≡ id = rw add-one second in
    omega (
      arith,
      one,
      more,
      counted id (get_or ids at 0) first,
      counted id (get_or ids (at + 1) 0) next,
      sum_by-take-le (once_if id) ids (at + 1 + 1),
    )

-- an id above all those before it
AreIds-push : (ids : List ℕ) (last id : ℕ) → AreIds ids last → last < id → AreIds (ids ++ id ∷ []) id
AreIds-push ids last id are above = record {
  once = λ other. ⊎_elim
      (λ (is : (eqb id other ≡ true) × (id ≡ other)).
      let more : times (ids ++ id ∷ []) other ≡ times ids other + 1 = count other ∙ ap (λ b. times ids other + cond b 1 0) is.0 in
      let same = is.1 in
      let least : times ids other ≤ 0 = none other (omega arith) in
      omega arith)
      (λ (is : (eqb id other ≡ false) × (id ≢ other)).
      let more : times (ids ++ id ∷ []) other ≡ times ids other + 0 = count other ∙ ap (λ b. times ids other + cond b 1 0) is.0 in
      let once = are.once other in
      omega arith)
      (eqb_tells id other);
  given = λ other stands. ⊎_elim
      (λ (is : (eqb id other ≡ true) × (id ≡ other)). let same = is.1 in (omega arith, omega arith))
      (λ (is : (eqb id other ≡ false) × (id ≢ other)).
      let more : times (ids ++ id ∷ []) other ≡ times ids other + 0 = count other ∙ ap (λ b. times ids other + cond b 1 0) is.0 in
      let given = are.given other (omega arith) in
      (given.0, omega arith))
      (eqb_tells id other);
}
  where
    count : (other : ℕ) → times (ids ++ id ∷ []) other ≡ times ids other + cond (eqb id other) 1 0
    count other = sum_by_push (once_if other) ids id

    none : (other : ℕ) → last < other → times ids other ≤ 0
    none other beyond =
        ⊎_elim (λ (none : times ids other ≤ 0). none)
        (λ (some : 0 < times ids other).
        let given = (are.given other some).1 in
        absurd (omega arith))
        (none_or_some (times ids other))

-- at the start
pub risen-none : (ids : List ℕ) → HasRisen ids 0 0
risen-none ids = record {
  are = record { once = λ id. omega arith; given = λ id stands. absurd (omega arith) };
  last_is = omega arith;
}

-- past an id above the last
pub risen-more : (ids : List ℕ) (at last id : ℕ) → HasRisen ids at last → at < length ids → id ≡ get_or ids at 0 → last < id
    → HasRisen ids (at + 1) id
risen-more ids at last id risen within is above = record {
  are = rw (take_more ids at 0 within, ← is) (AreIds-push (take at ids) last id risen.are above);
  last_is = rw add-one is;
}

-- a stream's ids don't have one that isn't
pub fallen : (ids : List ℕ) (at last id ids_given : ℕ) → IsNonDecreasing ids → HasRisen ids at last → at < length ids
    → id ≡ get_or ids at 0 → id ≤ last → AreIds ids ids_given → ⊥
fallen ids zero last id ids_given sorted risen within is below are =
    let given = (are.given id (there ids zero id within (sym is))).0 in
    let none : last ≡ 0 = risen.last_is in
    omega arith
fallen ids (suc at) last id ids_given sorted risen within is below are =
    let rises = sorted at (suc at) 0 (omega arith) within in
    let last_is : last ≡ get_or ids at 0 = risen.last_is in
    let same : get_or ids at 0 ≡ id = omega (arith, rises, is, below, last_is) in
    let twice = there_twice ids at id within same (sym is) in
    let once = are.once id in
    omega arith

-- the last of them is one of a stream's ids
last_given : (ids : List ℕ) (at last ids_given : ℕ) → HasRisen ids at last → at ≤ length ids → AreIds ids ids_given → last ≤ ids_given
last_given ids zero last ids_given risen within are = let none : last ≡ 0 = risen.last_is in omega arith
last_given ids (suc at) last ids_given risen within are =
    let last_is : last ≡ get_or ids at 0 = risen.last_is in
    (are.given last (there ids at last (omega (arith, within)) (sym last_is))).1

-- ids that all rise are a stream's where the last was given
pub risen_all : (ids : List ℕ) (at last ids_given : ℕ) → HasRisen ids at last → at ≡ length ids
    → (leb last ids_given ≡ true) ↔ AreIds ids ids_given
risen_all ids at last ids_given risen all = (
  λ below.
      let above : last ≤ ids_given = leb-true last ids_given below in
      let whole : AreIds ids last = rw (take_all at ids (omega (arith, all))) at risen.are in
      record {
        once = whole.once;
        given = λ id stands. let given = whole.given id stands in (given.0, omega arith);
      },
  λ are. le-leb last ids_given (last_given ids at last ids_given risen (omega (arith, all)) are),
)

-- in any order they are a stream's
AreIds-counted : (ids others : List ℕ) (ids_given : ℕ) → ((id : ℕ) → times others id ≡ times ids id) → AreIds ids ids_given
    → AreIds others ids_given
AreIds-counted ids others ids_given same are = record {
  once = λ id. let once = are.once id in let here = same id in omega arith;
  given = λ id stands. let here = same id in are.given id (omega arith);
}

AreIds-sorted : (ids sorted : List ℕ) (ids_given : ℕ) → IsPermutation ids sorted → AreIds sorted ids_given ↔ AreIds ids ids_given
AreIds-sorted ids sorted ids_given moved = (
  AreIds-counted sorted ids ids_given (λ id. sym (same id)),
  AreIds-counted ids sorted ids_given same,
)
  where
    same : (id : ℕ) → times sorted id ≡ times ids id
    same id = sum_by-IsPermutation (once_if id) ids sorted moved

-- a test of the sorted ids is one of the ids
pub AreIds-told : (ids numbers sorted slice : List ℕ) (ids_given : ℕ) (rises : Bool) → numbers ≡ ids → IsPermutation numbers sorted → slice ≡ sorted
    → (rises ≡ true) ↔ AreIds slice ids_given → (rises ≡ true) ↔ AreIds ids ids_given
AreIds-told ids numbers sorted slice ids_given rises are_ids moved same told =
    let here : (rises ≡ true) ↔ AreIds sorted ids_given = rw same at told in
    let both : AreIds sorted ids_given ↔ AreIds ids ids_given = rw are_ids at (AreIds-sorted numbers sorted ids_given moved) in (
      λ is. both.0 (here.0 is),
      λ are. here.1 (both.1 are),
    )
