-- Folds that agree in state and in the keys of the marked frames, and go on over the same units.
use Rattle.std.specs.Prelude.{◌≡◌, ℕ, List, [], ◌++◌, map, Option}
use Rattle.std.specs.List.{zip}
use Rattle.unit_outcomes.specs.declared.outcome.Outcome.{Outcome}
use Rattle.request_core.specs.States.{FoldState, no_units}
use Rattle.request_core.specs.Fold.{outcomes_of}
use Rattle.request_core.specs.Agreement.{Stream, state_from}
use Rattle.decode_jobs.specs.Keys.{Key}
use Rattle.picture_keys.specs.Known.{Known, key_at, known_after, keys_of}

-- the ids of a stream's units, each with the unit's outcome
abbrev pub becoming : Stream → List (ℕ × Outcome)
becoming stream = zip (map (λ unit. unit.0) stream) (outcomes_of stream)

-- the keys of the frames that are marked in a state, in decode order
abbrev pub marked_keys : Known → FoldState → List (Option Key)
marked_keys known state = map (λ frame. key_at known frame.id) state.marks.frames

-- the keys of the frames that are marked after a stream
abbrev pub marked_keys_of : Stream → List (Option Key)
marked_keys_of stream = marked_keys (known_after [] (becoming stream)) (state_from no_units stream)

-- the folds over two streams agree: the states are equal, and so are the keys of the marked frames
pub record Agree (first second : Stream) : Type 0 where
  pub states : state_from no_units first ≡ state_from no_units second
  pub keys : marked_keys_of first ≡ marked_keys_of second

-- over further units both have the same outcomes and the same keys, and agree again
pub record GoOnAlike (first second further : Stream) : Type 0 where
  pub outcomes : List Outcome
  pub keys : List (Option Key)
  pub first_outcomes : outcomes_of (first ++ further) ≡ outcomes_of first ++ outcomes
  pub second_outcomes : outcomes_of (second ++ further) ≡ outcomes_of second ++ outcomes
  pub first_keys : keys_of (becoming (first ++ further)) ≡ keys_of (becoming first) ++ keys
  pub second_keys : keys_of (becoming (second ++ further)) ≡ keys_of (becoming second) ++ keys
  pub agree : Agree (first ++ further) (second ++ further)
