-- What is told of a page of units.
use Rattle.std.proofs.Common.{◌≡◌, ◌∙◌, ◌+◌, ◌<◌, ◌≤◌, ℕ, List, [], ◌∷◌, ◌++◌, length, take, drop, slice_index_or, ap, sym, refl, subst, inl, inr, arith}
use Rattle.std.proofs.lemmas.Bool.{cases_lt}
use Rattle.std.proofs.lemmas.List.{get_or_append_left, get_or_push, length-take, length-drop, length_push}
use Rattle.unit_outcomes.specs.InDoubt.{AreDoubts, IsDoubt}
use Rattle.unit_outcomes.specs.SeenUnits.{SeenUnit}
use Rattle.unit_outcomes.specs.declared.doubts.walk.Doubt.{Doubt}
use Rattle.stand_in_session.specs.Machines.{Machine}
use Rattle.serve_answers.specs.declared.unit_answers.UnitFlags.{UnitFlags}
use Rattle.serve_calls.specs.Answering.{AreToldFrom, IsToldAt}

-- a page that has units begins at its place, and of another one nothing is told
pub told_from : (seen : List SeenUnit) (ids : List ℕ) (from count first : ℕ) (doubts : List Doubt) → (from ≤ length ids → first ≡ from)
    → AreDoubts seen first (length (take count (drop from ids))) doubts → AreDoubts seen from (length (take count (drop from ids))) doubts
told_from seen ids from count first doubts begins are = record {
  long = are.long;
  each = λ k none within.
      let inside : from ≤ length ids = omega (arith, within, length-take count (drop from ids), length-drop from ids) in
      subst (λ at. IsDoubt seen (at + k) (slice_index_or doubts k none)) (begins inside) (are.each k none within);
}

-- of no unit nothing is told
pub told_none : (machine : Machine) (from : ℕ) (ids : List ℕ) → AreToldFrom machine from 0 ids []
told_none machine from ids = record { long = refl; each = λ k unknown below. absurd (omega (arith, below)) }

-- what is told of a unit more
pub told_more : (machine : Machine) (from count : ℕ) (ids : List ℕ) (told : List UnitFlags) (one : UnitFlags)
    → AreToldFrom machine from count ids told → IsToldAt machine (from + count) (slice_index_or ids count 0) one
    → AreToldFrom machine from (count + 1) ids (told ++ one ∷ [])
told_more machine from count ids told one are is = record {
  long = length_push told one ∙ ap (λ n. n + 1) are.long;
  each = λ k unknown below. elim (cases_lt k count) [
    | inl less ↦
        let inside : k < length told = omega (arith, less, are.long) in
        subst (IsToldAt machine (from + k) (slice_index_or ids k 0)) (sym (get_or_append_left told (one ∷ []) unknown k inside))
        (are.each k unknown less)
    | inr not ↦
        let last : k ≡ count = omega (arith, not, below) in
        subst (IsToldAt machine (from + k) (slice_index_or ids k 0)) (sym (get_or_push told one unknown k (are.long ∙ sym last)))
        (subst (λ at. IsToldAt machine (from + at) (slice_index_or ids at 0) one) (sym last) is)
  ];
}
