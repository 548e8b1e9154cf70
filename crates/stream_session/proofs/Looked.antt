-- What is stored at the place of a unit is what the fold says of the unit.
use Rattle.std.proofs.Common.{◌≡◌, ℕ, ◌<◌, List, length, get_or, Option, Some, refl, ap, sym, ◌∙◌, subst}
use Rattle.std.specs.Prelude.{slice_get, option_and_then}
use Rattle.std.proofs.lemmas.Option.{slice_get_read}
use Rattle.unit_outcomes.specs.declared.outcome.Outcome.{Outcome}
use Rattle.request_core.specs.States.{no_units}
use Rattle.request_core.specs.Fold.{outcomes_of}
use Rattle.output_order.specs.OutputOrder.{positions_of}
use Rattle.picture_store.specs.Stores.{StoreValue}
use Rattle.stream_edits.specs.Edits.{Register}
use Rattle.picture_keys.specs.Units.{AreDifferent}
use Rattle.stream_edits.specs.Streams.{Stream, ids_of, place_of}
use Rattle.stream_edits.proofs.GivenIds.{AreDifferent-ids}
use Rattle.stream_session.proofs.Accepted.{HasIds-kept}
use Rattle.stream_session.proofs.Placed.{placed}
use Rattle.stream_session.specs.Stored.{History, IsSound}
use Rattle.stream_session.specs.Streams.{outcome_in, position_in}
use Rattle.stream_fold.proofs.Folds.{length-outcomes_from}

-- each unit has an outcome
pub length-outcomes_of : (stream : Stream) → length (outcomes_of stream) ≡ length stream
length-outcomes_of stream = length-outcomes_from no_units stream

-- the outcome at the unit's place
pub outcome_found : (stream : Stream) (id place : ℕ) (outcomes : List Outcome) (outcome : Outcome)
    → place_of stream id ≡ Some place → outcomes ≡ outcomes_of stream → place < length outcomes
    → outcome ≡ get_or outcomes place outcome → outcome_in stream id ≡ Some outcome
outcome_found stream id place outcomes outcome stands folded within read =
    ap (option_and_then (slice_get (outcomes_of stream))) stands
    ∙ (ap (λ (xs : List Outcome). slice_get xs place) (sym folded)
    ∙ slice_get_read outcomes (length outcomes) place outcome refl within read)

-- the position at the unit's place
pub position_found : (stream : Stream) (id place : ℕ) (position : Option ℕ) → place_of stream id ≡ Some place
    → slice_get (positions_of (outcomes_of stream)) place ≡ Some position → position_in stream id ≡ Some position
position_found stream id place position stands at =
    ap (option_and_then (slice_get (positions_of (outcomes_of stream)))) stands ∙ at

module _ {P : Type 0} where
  -- the ids that are stored differ
  pub ids_apart : (history : History) (register : Register) (store : StoreValue P) → IsSound history register store
      → AreDifferent store.ids
  ids_apart history register store kept =
      subst AreDifferent (sym kept.identified) (AreDifferent-ids register (HasIds-kept history register store kept))

  -- a unit is found where it stands
  pub place_kept : (history : History) (register : Register) (store : StoreValue P) → IsSound history register store
      → (id at : ℕ) → slice_get (ids_of register.stream) at ≡ Some id → place_of register.stream id ≡ Some at
  place_kept history register store kept id at stands =
      sym (placed (ids_of register.stream) id at (AreDifferent-ids register (HasIds-kept history register store kept)) stands)
