-- A fold over a changed stream, from a stored state on.
use Rattle.std.specs.Prelude.{◌≡◌, ℕ, ◌+◌, ◌-◌, ◌<◌, ◌≤◌, List, [], ◌∷◌, ◌++◌, length, take, drop, Option, IfSome, unwrap_or}
use Rattle.std.specs.List.{All}
use Rattle.std.specs.Map.{keys_of}
use Rattle.request_core.specs.States.{FoldState, no_units}
use Rattle.request_core.specs.Fold.{outcomes_of}
use Rattle.request_core.specs.Agreement.{Stream, state_from}
use Rattle.checkpoints.specs.Stored.{IsStoredAt}
use Rattle.checkpoints.specs.Spacing.{HasNear}
use Rattle.stream_edits.specs.declared.changes.Change.{Change}
use Rattle.stream_fold.specs.declared.refold.Refold.{Refold}
use Rattle.stream_edits.specs.Changes.{at_of, stream_after, rest_from, units_of}
use Rattle.stream_fold.specs.Changes.{place_after}
use Rattle.stream_fold.specs.Meeting.{IsCounted, IsMeeting}
use Rattle.stream_fold.specs.StoredStates.{IsPast, spacing}

-- it begins at a place in this state
pub record Begins (from kept : ℕ) (state : FoldState) (fold : Refold) : Type 0 where
  pub from_is : fold.from ≡ from
  pub kept_is : fold.kept ≡ kept
  pub place_is : fold.place ≡ from
  pub since_is : fold.since + kept ≡ from
  pub state_is : fold.state ≡ state
  pub no_states : fold.states.items ≡ []
  pub no_outcomes : fold.outcomes.items ≡ []
  pub no_steps : fold.steps ≡ 0

-- a state to be stored is that past its place, which is past the one that is kept
pub record IsNew (front : Stream) (kept : ℕ) (e : ℕ × FoldState) : Type 0 where
  pub above : kept < e.0
  pub past : IsPast front e.0 e.1

-- the places rise, each by the spacing at least from the one before it, the first from this one,
-- and none is past an end
abbrev pub AreApart : ℕ → List ℕ → ℕ → Type 0
AreApart from [] end = from ≤ end
AreApart from (place ∷ places) end = (from + spacing ≤ place) × AreApart place places end

-- it has come past the prefix of a stream
pub record IsRefolded (front : Stream) (fold : Refold) : Type 0 where
  pub place_is : fold.place ≡ length front
  pub state_is : fold.state ≡ state_from no_units front
  pub begun : fold.from ≤ length front
  pub outcomes_are : outcomes_of front ≡ take fold.from (outcomes_of front) ++ fold.outcomes.items
  pub counted : fold.steps + fold.from ≡ length front
  pub states_are : All (IsNew front fold.kept) fold.states.items
  pub gap : fold.kept + fold.since ≤ length front
  pub apart : (end : ℕ) → end + fold.since ≡ length front → AreApart fold.kept (keys_of fold.states.items) end
  pub near : (k : ℕ) → fold.kept ≤ k → k + fold.since < length front + spacing
      → HasNear spacing (fold.kept ∷ keys_of fold.states.items) k

-- it goes on over units
pub record GoesOn (old : Refold) (units : Stream) (new : Refold) : Type 0 where
  pub from_is : new.from ≡ old.from
  pub kept_is : new.kept ≡ old.kept
  pub place_is : new.place ≡ old.place + length units
  pub refolded : (front : Stream) → IsRefolded front old → IsRefolded (front ++ units) new

-- it begins at a place up to `at`, and less than the spacing before it
pub record IsStart (at : ℕ) (stream : Stream) (states : List (ℕ × FoldState)) (fold : Refold) : Type 0 where
  pub before : fold.from ≤ at
  pub close : at < fold.from + spacing
  pub place_is : fold.place ≡ fold.from
  pub kept_before : fold.kept ≤ fold.from
  pub kept : (state : FoldState) × IsStoredAt states fold.kept state
  pub refolded : IsRefolded (take fold.from stream) fold

-- it has gone on over the units from a place up to another, and past none of them its state was the
-- one stored there
pub record CatchesUp (stream : Stream) (states : List (ℕ × FoldState)) (from at : ℕ) (old new : Refold) : Type 0 where
  pub on : GoesOn old (take (at - from) (drop from stream)) new
  pub none : (front : Stream) → IsRefolded front old → (place : ℕ) → from < place → place ≤ at
      → IsStoredAt states place (state_from no_units (front ++ take (place - from) (drop from stream))) → ⊥

-- the place at which it has come to a stored state, or the end
abbrev pub end_of : Stream → Option ℕ → ℕ
end_of stream met = unwrap_or met (length stream)

-- it has gone on over the units from a place on, up to the first place past them whose stored state
-- is its own
pub record HasCaughtUp (stream : Stream) (states : List (ℕ × FoldState)) (from : ℕ) (old : Refold) (met : Option ℕ)
    (new : Refold) : Type 0 where
  pub on : GoesOn old (take (end_of stream met - from) (drop from stream)) new
  pub met_at : IfSome met (λ to. (from < to) × (to ≤ length stream) × IsStoredAt states to new.state)
  pub not_before : (front : Stream) → IsRefolded front old → (place : ℕ) → from < place → place < end_of stream met
      → IsStoredAt states place (state_from no_units (front ++ take (place - from) (drop from stream))) → ⊥

-- it has gone over what a change changes
pub record IsMadeAnew (change : Change) (stream : Stream) (states : List (ℕ × FoldState)) (fold : Refold)
    (met : Option ℕ) : Type 0 where
  pub before : fold.from ≤ at_of change
  pub kept_before : fold.kept ≤ fold.from
  pub kept : (state : FoldState) × IsStoredAt states fold.kept state
  pub refolded : IsRefolded (take (place_after change (end_of stream met)) (stream_after change stream)) fold
  pub met_at : IfSome met (λ to. (rest_from change < to) × (to ≤ length stream) × IsStoredAt states to fold.state)
  pub few : (count : ℕ) → IsMeeting change stream count → fold.steps ≤ length (units_of change) + count + 63
  pub counted : IsCounted change stream fold.steps
