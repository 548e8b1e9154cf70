-- What is shown of a unit whose picture isn't held.
use Rattle.std.proofs.Common.{◌≡◌, ℕ, zero, suc, List, [], ◌∷◌, Option, None, Some, sym, ◌∙◌, subst}
use Rattle.std.specs.Prelude.{slice_get, option_and_then, Contains}
use Rattle.std.specs.List.{zip}
use Rattle.unit_outcomes.specs.declared.outcome.Outcome.{Outcome}
use Rattle.request_core.specs.Fold.{outcomes_of}
use Rattle.decode_jobs.specs.Keys.{Key}
use Rattle.picture_keys.specs.Known.{Known, key_of_outcome, keys_after, known_with}
use Rattle.stream_edits.specs.Streams.{Stream, ids_of, place_of}
use Rattle.stream_session.specs.declared.showing.Shown.TheVariants as shown
use Rattle.stand_in_session.specs.Machines.{Machine}
use Rattle.stand_in_session.specs.Showing.{Shows}
use Rattle.stream_session.specs.Showing.{keys_in, HasKey}
use Rattle.stream_session.specs.Streams.{outcome_in}
use Rattle.seat_books.proofs.Numbers.{has_place, one_key}

-- a unit's key is that of its outcome
key_became : (known : Known) (ids : List ℕ) (became : List Outcome) (at : ℕ) (key : Key) (outcome : Outcome)
    → slice_get (keys_after known (zip ids became)) at ≡ Some (Some key) → slice_get became at ≡ Some outcome
    → (before : Known) × (key_of_outcome before outcome ≡ Some key)
key_became known [] [] at key outcome has stands = absurd (cc)
key_became known [] (first ∷ became) at key outcome has stands = absurd (cc)
key_became known (id ∷ ids) [] at key outcome has stands = absurd (cc)
key_became known (id ∷ ids) (first ∷ became) zero key outcome has stands =
    let same : first ≡ outcome = cc in
    let is : key_of_outcome known first ≡ Some key = cc in
    (known, subst (λ (other : Outcome). key_of_outcome known other ≡ Some key) same is)
key_became known (id ∷ ids) (first ∷ became) (suc at) key outcome has stands =
    key_became (known_with known id (key_of_outcome known first)) ids became at key outcome has stands

key_at_place : (stream : Stream) (place : Option ℕ) (key : Key) (outcome : Outcome)
    → option_and_then (slice_get (keys_in stream)) place ≡ Some (Some key)
    → option_and_then (slice_get (outcomes_of stream)) place ≡ Some outcome
    → (before : Known) × (key_of_outcome before outcome ≡ Some key)
key_at_place stream None key outcome has stands = absurd (cc)
key_at_place stream (Some at) key outcome has stands = key_became [] (ids_of stream) (outcomes_of stream) at key outcome has stands

none_some : (key : Key) → None ≡ Some key → ⊥
none_some key same = cc

-- a unit with a fault has no key, nor has one without a picture
pub keyless : (stream : Stream) (id : ℕ) (key : Key) (outcome : Outcome) → ((before : Known) → key_of_outcome before outcome ≡ None)
    → outcome_in stream id ≡ Some outcome → HasKey stream id key → ⊥
keyless stream id key outcome none became has =
    let is = key_at_place stream (place_of stream id) key outcome has became in
    none_some key (sym (none is.0) ∙ is.1)

-- nor one that isn't there
pub none_keyless : (machine : Machine) (id : ℕ) (key : Key) → Shows machine id shown.NoSuchUnit
    → HasKey machine.register.stream id key → ⊥
none_keyless machine id key shows has = has_place machine.register.stream id key has shows

-- the picture of a pending unit isn't held
pub pending_awaited : (machine : Machine) (id : ℕ) (key : Key) → Shows machine id shown.Pending
    → HasKey machine.register.stream id key → Contains machine.held key → ⊥
pending_awaited machine id key shows has held =
    shows.2 (subst (λ (k : Key). Contains machine.held k) (one_key machine.register.stream id key shows.0 has shows.1) held)
