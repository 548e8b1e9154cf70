-- Which of the keys before a place the keys of the units from there on need.
use Rattle.std.specs.Prelude.{◌≡◌, ℕ, List, take, drop, All}
use Rattle.std.specs.List.{zip}
use Rattle.unit_outcomes.specs.declared.outcome.Outcome.{Outcome}
use Rattle.request_core.specs.States.{FoldState, marked_ids}
use Rattle.checkpoints.specs.Stored.{IsStoredAt}
use Rattle.picture_keys.specs.Depending.{DependOn}
use Rattle.picture_keys.specs.Numbered.{Numbers, number_at}

-- wherever a state is stored, the keys of the units from there on depend on those of the frames
-- alone that it marks
abbrev pub TellNeeds : List (ℕ × FoldState) → List ℕ → List Outcome → Type 0
TellNeeds states ids outcomes =
    (place : ℕ) (state : FoldState) → IsStoredAt states place state
    → DependOn (marked_ids state) (drop place (zip ids outcomes))

-- a state is stored at the place, and the keys of the frames that it marks have the same numbers in
-- both
abbrev pub AgreeAt : List (ℕ × FoldState) → ℕ → Numbers → Numbers → Type 0
AgreeAt states place before after =
    (state : FoldState) × IsStoredAt states place state
    × All (λ frame. number_at before frame.id ≡ number_at after frame.id) state.marks.frames

-- the units from one place on and below another
abbrev pub between : ℕ → ℕ → List ℕ → List Outcome → List (ℕ × Outcome)
between from to ids outcomes = zip (drop from (take to ids)) (drop from (take to outcomes))
