-- One reference more, each once.
use Rattle.std.proofs.Common.{◌≡◌, ◌≢◌, Bool, true, false, ⊎_elim, List, [], ◌∷◌, ◌++◌, subst}
use Rattle.std.specs.Prelude.{Contains}
use Rattle.std.proofs.lemmas.List.Elements.{Contains-append_left, Contains-get_or, Contains-push, Contains-push_cases}
use Rattle.std.proofs.lemmas.List.Quantifiers.{all_pairs_push}
use Rattle.stream_svg.specs.declared.unit.DrawnReference.{DrawnReference}
use Rattle.draw_run.specs.Lists.{AreEachOnce}

module _ (before references : List DrawnReference) (reference : DrawnReference) (are : AreEachOnce before references) where
  -- one that is among them is named once more
  pub named-again : Contains references reference → AreEachOnce (before ++ reference ∷ []) references
  named-again there = record {
    all = λ other. (
      (λ has. Contains-append_left before (reference ∷ []) other ((are.all other).0 has)),
      (λ named. ⊎_elim (λ old. (are.all other).1 old) (λ same. subst (Contains references) same there)
          (Contains-push_cases before reference other named)),
    );
    once = are.once;
  }

  -- another one is added
  pub named-new : (Contains references reference → ⊥) → AreEachOnce (before ++ reference ∷ []) (references ++ reference ∷ [])
  named-new absent = record {
    all = λ other. (
      (λ has. ⊎_elim (λ old. Contains-append_left before (reference ∷ []) other ((are.all other).0 old))
          (λ same. subst (Contains (before ++ reference ∷ [])) same (Contains-push before reference))
          (Contains-push_cases references reference other has)),
      (λ named. ⊎_elim (λ old. Contains-append_left references (reference ∷ []) other ((are.all other).1 old))
          (λ same. subst (Contains (references ++ reference ∷ [])) same (Contains-push references reference))
          (Contains-push_cases before reference other named)),
    );
    once = all_pairs_push (λ one other. one ≢ other) references reference are.once
        (λ k d here same. absent (subst (Contains references) same (Contains-get_or references k d here)));
  }

pub not-false : (test : Bool) → test ≡ false → test ≡ true → ⊥
not-false test one other = cc
