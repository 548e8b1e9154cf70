-- What stands at the places of lists.
use Rattle.std.proofs.Common.{◌≡◌, refl, ap, sym, ◌∙◌, ℕ, zero, suc, ◌+◌, ◌<◌, ◌≤◌, true, eqb, cond, List, [], ◌∷◌, ◌++◌, length, Some, arith}
use Rattle.std.specs.Prelude.{Contains, count_by, slice_get}
use Rattle.std.proofs.lemmas.List.Sums.{sum_by-cons}
use Rattle.std.proofs.lemmas.Option.{get_or_from_slice_get, same_Some, slice_get_read, slice_get_within}
use Rattle.picture_keys.specs.Units.{AreDifferent}

nothing_at : {X : Type 0} (at : ℕ) (x : X) → slice_get [] at ≡ Some x → ⊥
nothing_at at x is = cc

module _ {X : Type 0} where
  -- what stands at a place is contained
  pub contained : (xs : List X) (at : ℕ) (x : X) → slice_get xs at ≡ Some x → Contains xs x
  contained xs at x is = (at, slice_get_within xs at x is, get_or_from_slice_get xs at x x is)

  -- and what is contained stands at a place
  pub place_of : (xs : List X) (x : X) → Contains xs x → (at : ℕ) × (slice_get xs at ≡ Some x)
  place_of xs x is = (is.0, slice_get_read xs (length xs) is.0 x refl is.1 (sym is.2))

  -- of two lists end to end
  pub at_front : (xs more : List X) (at : ℕ) → at < length xs → slice_get (xs ++ more) at ≡ slice_get xs at
  at_front [] more at within = absurd (omega (arith, within))
  at_front (x ∷ xs) more zero within = refl
  at_front (x ∷ xs) more (suc at) within = at_front xs more at (omega (arith, within))

  pub at_behind : (xs more : List X) (at : ℕ) → slice_get (xs ++ more) (length xs + at) ≡ slice_get more at
  at_behind [] more at = let none : 0 + at ≡ at = omega arith in ap (slice_get more) none
  at_behind (x ∷ xs) more at =
      let next : length (x ∷ xs) + at ≡ suc (length xs + at) = omega arith in
      ap (slice_get (x ∷ (xs ++ more))) next ∙ at_behind xs more at

eqb-same : (n : ℕ) → eqb n n ≡ true
eqb-same n = grind arith

once : ℕ → ℕ → ℕ
once id x = cond (eqb x id) 1 0

-- an id that is counted nowhere stands nowhere
nowhere : (ids : List ℕ) (id at : ℕ) → count_by (λ other. eqb other id) ids ≤ 0 → slice_get ids at ≡ Some id → ⊥
nowhere [] id at none is = nothing_at at id is
nowhere (x ∷ ids) id zero none is =
    let parts = sum_by-cons {X = ℕ} (λ other. cond (eqb other id) 1 0) x ids in
    let same : x ≡ id = same_Some x id is in
    let one : cond (eqb x id) 1 0 ≡ 1 = ap {B = ℕ} (λ b. cond b 1 0) (ap (λ n. eqb n id) same ∙ eqb-same id) in
    absurd (omega (arith, parts, none, one))
nowhere (x ∷ ids) id (suc at) none is =
    let parts = sum_by-cons {X = ℕ} (λ other. cond (eqb other id) 1 0) x ids in
    nowhere ids id at (omega (arith, parts, none)) is

one_place : (ids : List ℕ) (id at other : ℕ) → count_by (λ x. eqb x id) ids ≤ 1 → slice_get ids at ≡ Some id
    → slice_get ids other ≡ Some id → at ≡ other
one_place [] id at other few first second = absurd (nothing_at at id first)
one_place (x ∷ ids) id zero zero few first second = refl
one_place (x ∷ ids) id zero (suc other) few first second =
    let parts = sum_by-cons {X = ℕ} (λ other. cond (eqb other id) 1 0) x ids in
    let same : x ≡ id = same_Some x id first in
    let one : cond (eqb x id) 1 0 ≡ 1 = ap {B = ℕ} (λ b. cond b 1 0) (ap (λ n. eqb n id) same ∙ eqb-same id) in
    absurd (nowhere ids id other (omega (arith, parts, few, one)) second)
one_place (x ∷ ids) id (suc at) zero few first second =
    let parts = sum_by-cons {X = ℕ} (λ other. cond (eqb other id) 1 0) x ids in
    let same : x ≡ id = same_Some x id second in
    let one : cond (eqb x id) 1 0 ≡ 1 = ap {B = ℕ} (λ b. cond b 1 0) (ap (λ n. eqb n id) same ∙ eqb-same id) in
    absurd (nowhere ids id at (omega (arith, parts, few, one)) first)
one_place (x ∷ ids) id (suc at) (suc other) few first second =
    let parts = sum_by-cons {X = ℕ} (λ other. cond (eqb other id) 1 0) x ids in
    ap suc (one_place ids id at other (omega (arith, parts, few)) first second)

-- an id among ids that differ stands at one place
pub placed_once : (ids : List ℕ) → AreDifferent ids → (id at other : ℕ) → slice_get ids at ≡ Some id → slice_get ids other ≡ Some id
    → at ≡ other
placed_once ids different id at other first second = one_place ids id at other (different id) first second
