-- The fold over a stream's units, and what is kept of each for its lines.
use Rattle.std.specs.Prelude.{◌≡◌, ℕ, ◌+◌, ◌++◌, List, [], ◌∷◌, Option, map}
use Rattle.unit_outcomes.specs.declared.outcome.Outcome.{Outcome}
use Rattle.request_core.specs.States.{no_units}
use Rattle.request_core.specs.Fold.{outcomes_of}
use Rattle.request_core.specs.Agreement.{state_from}
use Rattle.unit_printing.specs.UnitLines.{outcome_head, outcome_tail}
use Rattle.plan_stream.specs.declared.plan_fold.PlanFold.{PlanFold}
use Rattle.plan_stream.specs.Shown.{shown_of}
use Rattle.plan_stream.specs.Streams.{numbered_from}

-- the lines of units after their positions, with ids from this one on
abbrev pub tails_from : ℕ → List Outcome → List (List ℕ)
tails_from id [] = []
tails_from id (outcome ∷ outcomes) = outcome_tail id outcome ∷ tails_from (id + 1) outcomes

-- the lines of units, of which those after their positions are kept
abbrev pub kept_text : ℕ → List Outcome → List (Option ℕ) → List (List ℕ) → List ℕ
kept_text id (outcome ∷ outcomes) (position ∷ positions) (tail ∷ tails) =
    (outcome_head id position outcome ++ tail) ++ kept_text (id + 1) outcomes positions tails
kept_text id outcomes positions tails = []

-- these access units were folded
pub record IsFoldOf (done : List (List (List ℕ))) (fold : PlanFold) : Type 0 where
  pub state_is : fold.state ≡ state_from no_units (numbered_from 1 done)
  pub outcomes_are : fold.outcomes.items ≡ map shown_of (outcomes_of (numbered_from 1 done))
  pub tails_are : fold.tails ≡ tails_from 1 (outcomes_of (numbered_from 1 done))
