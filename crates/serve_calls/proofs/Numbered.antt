-- Units that are wanted, number by number.
use Rattle.std.proofs.Common.{◌≡◌, ◌≢◌, ℕ, List, [], ◌∷◌, ◌++◌, sym, subst, inl, inr, Contains, All}
use Rattle.std.proofs.lemmas.List.Elements.{All-push, Contains-push, Contains-push_cases, Contains-append_left}
use Rattle.std.proofs.lemmas.List.Quantifiers.{all_pairs_push}
use Rattle.serve_calls.specs.declared.wanted_units.WantedUnit.{WantedUnit}
use Rattle.serve_calls.specs.WantedUnits.{AreWanted, IsAmong, IsUntold}

-- a number more that is there already changes nothing
pub again : (numbers : List ℕ) (units : List WantedUnit) (number : ℕ) → AreWanted numbers units → IsAmong units number
    → AreWanted (numbers ++ number ∷ []) units
again numbers units number are among = record {
  each = λ other is. elim (Contains-push_cases numbers number other is) [
    | inl before ↦ are.each other before
    | inr same ↦ subst (IsAmong units) same among
  ];
  only = λ other is. Contains-append_left numbers (number ∷ []) other (are.only other is);
  once = are.once;
  untold = are.untold;
}

-- one that isn't has a unit more
pub more : (numbers : List ℕ) (units : List WantedUnit) (unit : WantedUnit) → AreWanted numbers units
    → All (λ other. other.number ≢ unit.number) units → IsUntold unit
    → AreWanted (numbers ++ unit.number ∷ []) (units ++ unit ∷ [])
more numbers units unit are none untold = record {
  each = λ other is. elim (Contains-push_cases numbers unit.number other is) [
    | inl before ↦ let it = are.each other before in (it.0, Contains-append_left units (unit ∷ []) it.0 it.1, it.2)
    | inr same ↦ (unit, Contains-push units unit, same)
  ];
  only = λ other is. elim (Contains-push_cases units unit is.0 is.1) [
    | inl before ↦ Contains-append_left numbers (unit.number ∷ []) other (are.only other (is.0, before, is.2))
    | inr same ↦ subst (Contains (numbers ++ unit.number ∷ [])) (subst (λ (it : WantedUnit). it.number ≡ other) (sym same) is.2) (Contains-push numbers unit.number)
  ];
  once = all_pairs_push (λ it other. it.number ≢ other.number) units unit are.once (λ k d low. none k d low);
  untold = All-push IsUntold units unit are.untold untold;
}
