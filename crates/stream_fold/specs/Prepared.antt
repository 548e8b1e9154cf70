-- A change that is prepared.
use Rattle.std.specs.Prelude.{◌≡◌, ℕ, ◌+◌, ◌^◌, ◌<◌, ◌≤◌, List, ◌++◌, length, take, drop}
use Rattle.unit_outcomes.specs.declared.outcome.Outcome.{Outcome}
use Rattle.request_core.specs.Fold.{outcomes_of}
use Rattle.request_core.specs.Agreement.{Stream}
use Rattle.stream_edits.specs.declared.changes.Change.{Change}
use Rattle.stream_fold.specs.declared.folded.PreparedFold.{PreparedFold}
use Rattle.stream_edits.specs.Changes.{IsInside, at_of, stream_after, units_of}
use Rattle.stream_fold.specs.StoredStates.{FoldedValue, IsResumePoint}
use Rattle.stream_fold.specs.Refolding.{IsMadeAnew, end_of}

-- the change is one of this stream, what it changes is folded anew, and there is room for its units
-- and for the states that are found
pub record IsPrepared (folded : FoldedValue) (prepared : PreparedFold) : Type 0 where
  pub inside : IsInside prepared.change folded.stream
  pub short : length folded.stream + length (units_of prepared.change) < 2 ^ 64
  pub made : IsMadeAnew prepared.change folded.stream folded.stored.states prepared.fold prepared.met
  pub resume_point : IsResumePoint folded.stream (at_of prepared.change) prepared.resume_point
  pub units_spare : length (units_of prepared.change) ≤ folded.units_spare
  pub states_spare : length prepared.fold.states.items ≤ folded.stored.spare

-- the change that is prepared
abbrev pub change_in : PreparedFold → Change
change_in prepared = prepared.change

-- how many steps of the fold it took
abbrev pub steps_in : PreparedFold → ℕ
steps_in prepared = prepared.fold.steps

-- the first place whose outcome is made anew
abbrev pub begin_in : PreparedFold → ℕ
begin_in prepared = prepared.fold.from

-- the place of the stream as it was from which on outcomes stay
abbrev pub end_in : PreparedFold → Stream → ℕ
end_in prepared stream = end_of stream prepared.met

-- the outcomes that are made anew
abbrev pub outcomes_in : PreparedFold → List Outcome
outcomes_in prepared = prepared.fold.outcomes.items

-- after the change the stream's outcomes are those that they were, but for one range, in whose
-- place are new ones, a step of the fold for each
pub record IsAnew (prepared : PreparedFold) (stream : Stream) : Type 0 where
  pub ordered : begin_in prepared ≤ end_in prepared stream
  pub within : end_in prepared stream ≤ length stream
  pub counted : length (outcomes_in prepared) ≡ steps_in prepared
  pub outcomes_are : outcomes_of (stream_after (change_in prepared) stream)
      ≡ take (begin_in prepared) (outcomes_of stream) ++ outcomes_in prepared ++ drop (end_in prepared stream) (outcomes_of stream)
