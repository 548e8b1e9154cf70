-- A session's mark is that of what it stores.
use Rattle.std.proofs.Common.{◌≡◌, ◌↔◌, ℕ, Bool, List, Option, None, Some, Contains, Result, Ok, Err, OnOk, OnErr, refl, ap, sym, ◌∙◌, subst}
use Rattle.std.specs.Prelude.{slice_get, option_and_then, IsTrue}
use Rattle.std.specs.List.{filter_map, zip}
use Rattle.std.proofs.lemmas.Option.{same_Some}
use Rattle.std.specs.declared.alloc.AllocError.{AllocError}
use Rattle.unit_outcomes.specs.declared.outcome.Outcome.{Outcome}
use Rattle.decode_jobs.specs.Keys.{Key}
use Rattle.picture_keys.specs.Known.{keys_of}
use Rattle.picture_store.specs.Altered as pictures
use Rattle.picture_store.specs.Showing.{HasKey as HasKeyAt}
use Rattle.picture_store.specs.Stores.{StoreValue, unit_keys}
use Rattle.picture_store.proofs.Marked.{stands_listed}
use Rattle.stream_edits.specs.Edits.{Register}
use Rattle.stream_edits.specs.Streams.{ids_of, place_of}
use Rattle.stream_session.specs.Altered.{IsAltered, NoneAltered, keys_in_use, with_mark}
use Rattle.stream_session.specs.Stored.{History, machine_of}
use Rattle.stream_session.specs.Machines.{Machine}
use Rattle.stream_session.specs.Showing.{keys_in, HasKey}
use Rattle.stream_session.proofs.Pictured.{IsStoreOf, UnitsStay, same_units}

-- the place of a unit that has a key
at_place : (place : Option ℕ) (keys : List (Option Key)) (key : Key) → option_and_then (slice_get keys) place ≡ Some (Some key)
    → (at : ℕ) × (slice_get keys at ≡ Some (Some key))
at_place None keys key is = absurd (cc)
at_place (Some at) keys key is = (at, is)

-- right after a mark no unit is altered
pub none_altered : {P : Type 0} (machine : Machine P) → NoneAltered (with_mark machine)
none_altered machine id altered =
    let keys : List (Option Key) = keys_in machine.register.stream in
    let found : (at : ℕ) × (slice_get keys at ≡ Some (Some altered.key)) =
    at_place (place_of machine.register.stream id) keys altered.key altered.has in
    altered.new
    (subst (λ (those : List Key). Contains those altered.key)
    (same_Some (keys_in_use machine.register.stream) altered.keys altered.marked)
    (stands_listed keys found.0 altered.key found.1))

module _ {P : Type 0} (history : History) (register : Register) (store : StoreValue P) (is : IsStoreOf register.stream store) where
  keys_same : unit_keys store ≡ keys_in register.stream
  keys_same =
      ap (λ (ids : List ℕ). keys_of (zip ids store.outcomes)) is.identified
      ∙ ap (λ (outcomes : List Outcome). keys_of (zip (ids_of register.stream) outcomes)) is.folded

  -- what is stored is marked
  pub marked_seen : (new : StoreValue P) → new ≡ pictures.with_mark store
      → machine_of history register new ≡ with_mark (machine_of history register store)
  marked_seen new same =
      ap (machine_of history register) same
      ∙ ap (λ (keys : List (Option Key)). record (machine_of history register store) { marked = Some (filter_map (λ key. key) keys) }) keys_same

  -- also where memory may be refused
  pub mark_stays : (r : Result (Unit {0}) AllocError) (new : StoreValue P) → OnOk r (new ≡ pictures.with_mark store)
      → OnErr r (new ≡ store) → UnitsStay store new
  mark_stays (Ok x) new ok err = same_units store new (pictures.with_mark store) ok refl refl
  mark_stays (Err e) new ok err = same_units store new store err refl refl

  pub mark_told : (r : Result (Unit {0}) AllocError) (new : StoreValue P) → OnOk r (new ≡ pictures.with_mark store)
      → OnOk r (machine_of history register new ≡ with_mark (machine_of history register store))
  mark_told (Ok x) new ok = marked_seen new ok
  mark_told (Err e) new ok = ok

  pub none_told : (r : Result (Unit {0}) AllocError) (new : StoreValue P) → OnOk r (new ≡ pictures.with_mark store)
      → OnOk r (NoneAltered (machine_of history register new))
  none_told (Ok x) new ok = subst NoneAltered (sym (marked_seen new ok)) (none_altered (machine_of history register store))
  none_told (Err e) new ok = ok

  pub mark_refused : (r : Result (Unit {0}) AllocError) (new : StoreValue P) → OnErr r (new ≡ store)
      → OnErr r (machine_of history register new ≡ machine_of history register store)
  mark_refused (Ok x) new err = err
  mark_refused (Err e) new err = ap (machine_of history register) err

  module _ (id place : ℕ) (stands : place_of register.stream id ≡ Some place) where
    has_there : (key : Key) → HasKey register.stream id key → HasKeyAt store place key
    has_there key has =
        ap (λ (keys : List (Option Key)). slice_get keys place) keys_same
        ∙ (sym (ap (option_and_then (slice_get (keys_in register.stream))) stands) ∙ has)

    has_here : (key : Key) → HasKeyAt store place key → HasKey register.stream id key
    has_here key has =
        ap (option_and_then (slice_get (keys_in register.stream))) stands
        ∙ (sym (ap (λ (keys : List (Option Key)). slice_get keys place) keys_same) ∙ has)

    -- what is told of a place is told of its unit
    pub altered_seen : (answer : Bool) → IsTrue answer ↔ pictures.IsAltered store place
        → IsTrue answer ↔ IsAltered (machine_of history register store) id
    altered_seen answer tells = (
      λ yes.
          let altered = tells.0 yes in
          record {
            key = altered.key;
            has = has_here altered.key altered.has;
            keys = altered.keys;
            marked = altered.marked;
            new = altered.new;
          },
      λ altered. tells.1 (record {
        key = altered.key;
        has = has_there altered.key altered.has;
        keys = altered.keys;
        marked = altered.marked;
        new = altered.new;
      }),
    )
