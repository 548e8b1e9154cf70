-- Where the needed units that were found name no others that wait, they are all.
use Rattle.std.proofs.Common.{◌≡◌, ℕ, List, [], Contains, ◌⊎◌, inl, inr, subst, arith}
use Rattle.unit_outcomes.specs.declared.outcome.Outcome.{Outcome}
use Rattle.held_pictures.proofs.Members.{nowhere}
use Rattle.held_pictures.specs.Needed.{IsNeeded, AreNeeded, Names}
use Rattle.held_pictures.specs.Needed.IsNeeded.{itself, named}
use Rattle.held_pictures.specs.Scanned.{IsScanned}

module _ (units : List (ℕ × Outcome)) (Waits : ℕ → Type 0) (target : ℕ) where
  -- a set that has the target and is closed has each needed place
  pub all_needed : (Has : ℕ → Type 0) → Has target
      → ((place other : ℕ) → Has place → Names units place other → Waits other → Has other)
      → (at : ℕ) → IsNeeded units Waits target at → Has at
  all_needed Has begun closed at (itself waits) = begun
  all_needed Has begun closed at (named place other needed names waits) =
      closed place other (all_needed Has begun closed place needed) names waits

  -- where the target doesn't wait, nothing is needed
  pub target_waits : (at : ℕ) → IsNeeded units Waits target at → Waits target
  target_waits at (itself waits) = waits
  target_waits at (named place other needed names waits) = target_waits place needed

  pub none_needed : (Waits target → ⊥) → AreNeeded units Waits target []
  none_needed not = record {
    falling = tt;
    are = λ at. (λ is. absurd (nowhere at is), λ needed. absurd (not (target_waits at needed)));
  }

  -- all are found where nothing is wanted any more, or the first place was gone over
  pub all_found : (at : ℕ) (wanted needed : List ℕ) → (at ≡ 0) ⊎ (wanted ≡ [])
      → IsScanned units Waits target at wanted needed → AreNeeded units Waits target needed
  all_found at wanted needed done scanned = record {
    falling = scanned.falling;
    are = λ place. (
      λ is. scanned.needs place is,
      λ is. all_needed (Contains needed) scanned.begun closed place is,
    );
  }
    where
      closed : (place other : ℕ) → Contains needed place → Names units place other → Waits other → Contains needed other
      closed place other among names waits =
          elim (scanned.closed place other among names waits) [
            | inl is ↦ is
            | inr below ↦ absurd (elim done [
              | inl zero ↦ omega (arith, below.0, zero)
              | inr none ↦ nowhere names.id (subst (λ (ids : List ℕ). Contains ids names.id) none below.1)
            ])
          ]

-- where each that waits waits in the other way too, what is needed is
pub needed_more : (units : List (ℕ × Outcome)) (Waits Others : ℕ → Type 0) (target : ℕ)
    → ((place : ℕ) → Waits place → Others place) → (at : ℕ) → IsNeeded units Waits target at → IsNeeded units Others target at
needed_more units Waits Others target more at (itself waits) = itself (more at waits)
needed_more units Waits Others target more at (named place other needed names waits) =
    named place other (needed_more units Waits Others target more place needed) names (more other waits)

-- a needed unit waits
pub needed_waits : (units : List (ℕ × Outcome)) (Waits : ℕ → Type 0) (target at : ℕ) → IsNeeded units Waits target at → Waits at
needed_waits units Waits target at (itself waits) = waits
needed_waits units Waits target at (named place other needed names waits) = waits
