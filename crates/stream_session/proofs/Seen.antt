-- What is shown of a unit is what is stored at its place.
use Rattle.std.proofs.Common.{◌≡◌, ℕ, List, [], length, Option, None, Some, ap, sym, ◌∙◌}
use Rattle.std.specs.Prelude.{slice_get, option_and_then, Contains}
use Rattle.std.specs.List.{zip}
use Rattle.std.proofs.lemmas.List.{length-map}
use Rattle.unit_outcomes.specs.declared.outcome.Outcome.{Outcome}
use Rattle.unit_outcomes.specs.declared.outcome.Outcome.TheVariants as outcomes
use Rattle.unit_outcomes.specs.declared.outcome.Plan.{Plan}
use Rattle.unit_outcomes.specs.declared.validity_fault.ValidityFault.{ValidityFault}
use Rattle.request_core.specs.Fold.{outcomes_of}
use Rattle.decode_jobs.specs.Keys.{Key}
use Rattle.picture_keys.specs.Known.{keys_of}
use Rattle.picture_store.specs.Stores.{StoreValue, unit_keys}
use Rattle.picture_store.specs.Showing.{HasKey as HasKeyAt, IsNumberAt, IsPictureAt}
use Rattle.stream_session.specs.declared.showing.Shown.TheVariants as shown
use Rattle.stream_edits.specs.Streams.{Stream, place_of}
use Rattle.stream_edits.specs.Edits.{Register}
use Rattle.stream_session.specs.Streams.{outcome_in}
use Rattle.stream_session.specs.Stored.{History, machine_of}
use Rattle.stream_session.specs.Showing.{keys_in, HasKey, HasNumber, Shows}
use Rattle.stream_session.proofs.Looked.{length-outcomes_of}
use Rattle.stream_session.proofs.Pictured.{IsStoreOf, key_of_plan}

module _ {P : Type 0} where
  -- a stream's units are stored with as many ids as outcomes
  pub length-stored : (stream : Stream) (store : StoreValue P) → IsStoreOf stream store → length store.ids ≡ length stream
  length-stored stream store is = ap length is.identified ∙ length-map stream (λ (unit : ℕ × List (List ℕ)). unit.0)

  -- and with as many outcomes
  pub length-folded : (stream : Stream) (store : StoreValue P) → IsStoreOf stream store → length store.outcomes ≡ length stream
  length-folded stream store is = ap length is.folded ∙ length-outcomes_of stream

  module _ (history : History) (register : Register) (store : StoreValue P) (id place : ℕ) where
    -- the key at the place of the unit is the unit's
    key_found : IsStoreOf register.stream store → place_of register.stream id ≡ Some place → (key : Key)
        → slice_get (unit_keys store) place ≡ Some (Some key) → HasKey register.stream id key
    key_found is stands key found =
        ap (option_and_then (slice_get (keys_in register.stream))) stands
        ∙ (ap (λ (ids : List ℕ). slice_get (keys_of (zip ids (outcomes_of register.stream))) place) (sym is.identified)
        ∙ (ap (λ (outcomes : List Outcome). slice_get (keys_of (zip store.ids outcomes)) place) (sym is.folded) ∙ found))

    -- a picture that isn't held
    pub shows_pending : IsStoreOf register.stream store → place_of register.stream id ≡ Some place → (plan : Plan)
        → slice_get store.outcomes place ≡ Some (outcomes.Plan plan)
        → ((key : Key) → HasKeyAt store place key → Contains store.held key → ⊥)
        → (key : Key) × HasKey register.stream id key × (Contains store.held key → ⊥)
    shows_pending is stands plan outcome awaited =
        let found = key_of_plan [] store.ids store.outcomes place plan
        (length-stored register.stream store is ∙ sym (length-folded register.stream store is)) outcome in
        (found.0, key_found is stands found.0 found.1, awaited found.0 found.1)

    -- the unit's outcome
    outcome_found : IsStoreOf register.stream store → place_of register.stream id ≡ Some place → (outcome : Outcome)
        → slice_get store.outcomes place ≡ Some outcome → outcome_in register.stream id ≡ Some outcome
    outcome_found is stands outcome found =
        ap (option_and_then (slice_get (outcomes_of register.stream))) stands
        ∙ (ap (λ (outcomes : List Outcome). slice_get outcomes place) (sym is.folded) ∙ found)

    -- a unit with a fault
    pub shows_fault : IsStoreOf register.stream store → place_of register.stream id ≡ Some place → (fault : ValidityFault)
        → slice_get store.outcomes place ≡ Some (outcomes.Fault fault)
        → outcome_in register.stream id ≡ Some (outcomes.Fault fault)
    shows_fault is stands fault found = outcome_found is stands (outcomes.Fault fault) found

    -- a unit without a picture
    pub shows_empty : IsStoreOf register.stream store → place_of register.stream id ≡ Some place
        → slice_get store.outcomes place ≡ Some outcomes.Empty
        → outcome_in register.stream id ≡ Some outcomes.Empty
    shows_empty is stands found = outcome_found is stands outcomes.Empty found

    -- the number at the place of the unit is that of the unit's key
    pub number_found : IsStoreOf register.stream store → place_of register.stream id ≡ Some place → (number : Option ℕ)
        → IsNumberAt store place number → HasNumber (machine_of history register store) id number
    number_found is stands (Some number) at = (
      at.0,
      key_found is stands at.0 at.1,
      ap (option_and_then (slice_get store.numbers)) stands ∙ at.2,
    )
    number_found is stands None at = (
      ap (option_and_then (slice_get (keys_in register.stream))) stands
          ∙ (ap (λ (ids : List ℕ). slice_get (keys_of (zip ids (outcomes_of register.stream))) place) (sym is.identified)
          ∙ (ap (λ (outcomes : List Outcome). slice_get (keys_of (zip store.ids outcomes)) place) (sym is.folded) ∙ at.0)),
      ap (option_and_then (slice_get store.numbers)) stands ∙ at.1,
    )

module _ {P : Type 0} (IsOf : Key → P → Type 0) where
  module _ (history : History) (register : Register) (store : StoreValue P) (id place : ℕ) where
    -- a picture that is held
    pub shows_ready : IsStoreOf register.stream store → place_of register.stream id ≡ Some place → (picture : P)
        → IsPictureAt IsOf store place (Some picture) → Shows IsOf (machine_of history register store) id (shown.Ready picture)
    shows_ready is stands picture held = (held.0, key_found history register store id place is stands held.0 held.1, held.2, held.3, held.4)
