-- Units of three columns, and what is told of them one after the other.
use Rattle.std.proofs.Common.{◌≡◌, sym, ◌∙◌, ap, subst, ℕ, ◌+◌, ◌<◌, Bool, true, List, [], ◌∷◌, ◌++◌, length, Some, slice_get, zero, suc, inl, inr, arith}
use Rattle.std.proofs.lemmas.Bool.{cases_lt}
use Rattle.std.proofs.lemmas.List.{get_or_append_left, get_or_push, length_push}
use Rattle.std.proofs.lemmas.Option.{same_Some}
use Rattle.unit_outcomes.specs.declared.outcome.Outcome.{Outcome}
use Rattle.unit_outcomes.specs.SeenUnits.{IsIdrAt, SeenUnit, seen_units, tells_idr}
use Rattle.unit_outcomes.specs.InDoubt.{AreDoubts, IsDoubt}
use Rattle.unit_outcomes.specs.declared.doubts.walk.Doubt.{Doubt}

-- the unit of three columns at a place
pub seen_at : (ids : List ℕ) (references : List Bool) (outcomes : List Outcome) (at id : ℕ) (reference : Bool) (outcome : Outcome)
    → slice_get ids at ≡ Some id → slice_get references at ≡ Some reference → slice_get outcomes at ≡ Some outcome
    → slice_get (seen_units ids references outcomes) at ≡ Some (record { id = id; is_reference = reference; outcome = outcome })
seen_at [] references outcomes at id reference outcome a b c = cc
seen_at (i ∷ ids) [] outcomes at id reference outcome a b c = cc
seen_at (i ∷ ids) (r ∷ references) [] at id reference outcome a b c = cc
seen_at (i ∷ ids) (r ∷ references) (o ∷ outcomes) zero id reference outcome a b c =
    let same_id = same_Some i id a in
    let same_reference = same_Some r reference b in
    let same_outcome = same_Some o outcome c in
    cc
seen_at (i ∷ ids) (r ∷ references) (o ∷ outcomes) (suc at) id reference outcome a b c =
    seen_at ids references outcomes at id reference outcome a b c

-- a valid IDR picture among the outcomes stands among the units
pub idr_at : (ids : List ℕ) (references : List Bool) (outcomes : List Outcome) (at : ℕ)
    → length references ≡ length ids → length outcomes ≡ length ids
    → tells_idr (slice_get outcomes at) ≡ true → IsIdrAt (seen_units ids references outcomes) at
idr_at ids references [] at a b is = cc
idr_at [] references (o ∷ outcomes) at a b is = absurd (omega (arith, b))
idr_at (i ∷ ids) [] (o ∷ outcomes) at a b is = absurd (omega (arith, a))
idr_at (i ∷ ids) (r ∷ references) (o ∷ outcomes) zero a b is = is
idr_at (i ∷ ids) (r ∷ references) (o ∷ outcomes) (suc at) a b is =
    idr_at ids references outcomes at (omega (arith, a)) (omega (arith, b)) is

-- nothing is told of no unit
pub told_none : (units : List SeenUnit) (from count : ℕ) → count ≡ 0 → AreDoubts units from count []
told_none units from count none = record {
  long = omega (arith, none);
  each = λ k d below. absurd (omega (arith, none, below));
}

-- what is told of a unit more
pub told_more : (units : List SeenUnit) (from count more at : ℕ) (doubts : List Doubt) (doubt : Doubt)
    → more ≡ count + 1 → at ≡ from + count → AreDoubts units from count doubts → IsDoubt units at doubt → AreDoubts units from more (doubts ++ doubt ∷ [])
told_more units from count more at doubts doubt more_is at_is told is = record {
  long = length_push doubts doubt ∙ ap (λ n. n + 1) told.long ∙ sym more_is;
  each = λ k d below. elim (cases_lt k count) [
    | inl less ↦
        let inside : k < length doubts = omega (arith, less, told.long) in
        subst (IsDoubt units (from + k)) (sym (get_or_append_left doubts (doubt ∷ []) d k inside)) (told.each k d less)
    | inr not ↦
        let last : k ≡ count = omega (arith, not, below, more_is) in
        let place : at ≡ from + k = omega (arith, last, at_is) in
        subst (IsDoubt units (from + k)) (sym (get_or_push doubts doubt d k (told.long ∙ sym last)))
        (subst (λ place. IsDoubt units place doubt) place is)
  ];
}
