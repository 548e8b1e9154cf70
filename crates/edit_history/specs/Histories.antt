-- A history beside the texts that a stream had after each of its steps.
use Rattle.std.specs.Prelude.{◌≡◌, ℕ, ◌+◌, ◌<◌, ◌≤◌, List, length, Some, slice_get, vec_len}
use Rattle.std.specs.Vec.{vec_capacity}
use Rattle.edit_history.specs.declared.history.History.{History}
use Rattle.edit_history.specs.declared.history.HistoryStep.{HistoryStep}
use Rattle.edit_history.specs.Changes.{ChangesAll}
use Rattle.edit_history.specs.Texts.{Texts}

-- the states are the texts before the first step and after each: those of the steps that are done,
-- and then those of the steps that can be redone
pub record Fits (history : History) (states : List Texts) : Type 0 where
  pub within : history.done ≤ length history.steps.items
  pub count : length states ≡ length history.steps.items + 1
  pub each : (at : ℕ) (step : HistoryStep) (before after : Texts) → slice_get history.steps.items at ≡ Some step
      → slice_get states at ≡ Some before → slice_get states (at + 1) ≡ Some after → ChangesAll before step.changes.items after

-- and the texts are now those after the steps that are done
pub record IsHistory (history : History) (states : List Texts) (texts : Texts) : Type 0 where
  pub fits : Fits history states
  pub now : slice_get states history.done ≡ Some texts

-- there is room for one step more
abbrev pub HasCapacity : History → Type 0
HasCapacity history = vec_len history.steps < vec_capacity history.steps
