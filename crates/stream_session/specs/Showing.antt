-- What is shown of a unit, and the number of its key.
use Rattle.std.specs.Prelude.{◌≡◌, ℕ, List, Option, None, Some, Contains, slice_get, option_and_then}
use Rattle.std.specs.List.{zip}
use Rattle.unit_outcomes.specs.declared.outcome.Outcome.TheVariants as outcomes
use Rattle.request_core.specs.Fold.{outcomes_of}
use Rattle.decode_jobs.specs.Keys.{Key}
use Rattle.picture_keys.specs.Known.{keys_of}
use Rattle.stream_session.specs.declared.showing.Shown.{Shown}
use Rattle.stream_session.specs.declared.showing.Shown.TheVariants as shown
use Rattle.stream_edits.specs.Streams.{Stream, ids_of, place_of}
use Rattle.stream_session.specs.Streams.{outcome_in}
use Rattle.stream_session.specs.Machines.{Machine}

-- the key of each unit's picture, nothing for a unit that isn't valid
abbrev pub keys_in : Stream → List (Option Key)
keys_in stream = keys_of (zip (ids_of stream) (outcomes_of stream))

-- the unit that has the id is valid, and its picture has the key
abbrev pub HasKey : Stream → ℕ → Key → Type 0
HasKey stream id key = option_and_then (slice_get (keys_in stream)) (place_of stream id) ≡ Some (Some key)

module _ {P : Type 0} (IsOf : Key → P → Type 0) where
  -- what is shown of the unit that has the id: a picture of its key, one of those that are held, where
  -- the key is held, that it isn't, the unit's fault, that the unit has no picture, or that there is no
  -- such unit
  abbrev pub Shows : Machine P → ℕ → Shown P → Type 0
  Shows machine id (shown.Ready picture) =
      (key : Key) × HasKey machine.register.stream id key × Contains machine.held key × IsOf key picture
      × Contains machine.pictures.held picture
  Shows machine id shown.Pending =
      (key : Key) × HasKey machine.register.stream id key × (Contains machine.held key → ⊥)
  Shows machine id (shown.Fault fault) = outcome_in machine.register.stream id ≡ Some (outcomes.Fault fault)
  Shows machine id shown.Empty = outcome_in machine.register.stream id ≡ Some outcomes.Empty
  Shows machine id shown.NoSuchUnit = place_of machine.register.stream id ≡ None

module _ {P : Type 0} where
  -- the number of the key of the unit that has the id: nothing for a unit that isn't valid, which has
  -- no key
  abbrev pub HasNumber : Machine P → ℕ → Option ℕ → Type 0
  HasNumber machine id (Some number) =
      (key : Key) × HasKey machine.register.stream id key
      × (option_and_then (slice_get machine.numbers) (place_of machine.register.stream id) ≡ Some (Some number))
  HasNumber machine id None =
      (option_and_then (slice_get (keys_in machine.register.stream)) (place_of machine.register.stream id) ≡ Some None)
      × (option_and_then (slice_get machine.numbers) (place_of machine.register.stream id) ≡ Some None)
