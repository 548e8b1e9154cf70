-- Numbers of keys, and the units that have them.
use Rattle.std.proofs.Common.{◌≡◌, ℕ, zero, suc, List, [], ◌∷◌, take, Option, None, Some, ap, sym, ◌∙◌, subst, arith}
use Rattle.std.specs.Prelude.{slice_get, option_and_then, Contains}
use Rattle.decode_jobs.specs.Keys.{Key}
use Rattle.stand_in_session.specs.Machines.{StoreValue, Machine}
use Rattle.picture_store.specs.Stores.{AreOneToOne, IsNumberOf, unit_keys}
use Rattle.stream_edits.specs.Edits.{Register}
use Rattle.stream_edits.specs.Streams.{Stream, ids_of, place_of}
use Rattle.stream_edits.proofs.GivenIds.{AreDifferent-ids, HasIds-journal}
use Rattle.stream_session.specs.Jobs.{IsFirstWith}
use Rattle.stream_session.specs.Machines.{store_of}
use Rattle.stream_session.specs.Showing.{keys_in, HasKey, HasNumber}
use Rattle.stream_session.proofs.Placed.{placed}
use Rattle.stream_edits.specs.declared.edits.Edit.{Edit}
use Rattle.stream_edits.specs.Journals.{edits_of}
use Rattle.seat_books.specs.Books.{LeadTo}

-- a unit has one key
pub one_key : (stream : Stream) (id : ℕ) (key other : Key) → HasKey stream id key → HasKey stream id other → key ≡ other
one_key stream id key other is so = both (sym is ∙ so)
  where
    both : Some (Some key) ≡ Some (Some other) → key ≡ other
    both same = cc

-- a unit's key is in use
among_got : {X : Type 0} (xs : List X) (at : ℕ) (x : X) → slice_get xs at ≡ Some x → Contains xs x
among_got [] at x is = absurd (cc)
among_got (first ∷ xs) zero x is = (0, omega arith, some_is is)
  where
    some_is : Some first ≡ Some x → first ≡ x
    some_is same = cc
among_got (first ∷ xs) (suc at) x is =
    let rest = among_got xs at x is in
    (suc rest.0, omega (arith, rest.1), rest.2)

got_place : (keys : List (Option Key)) (place : Option ℕ) (key : Key)
    → option_and_then (slice_get keys) place ≡ Some (Some key) → Contains keys (Some key)
got_place keys None key has = absurd (cc)
got_place keys (Some at) key has = among_got keys at (Some key) has

pub used_key : (stream : Stream) (id : ℕ) (key : Key) → HasKey stream id key → Contains (keys_in stream) (Some key)
used_key stream id key has = got_place (keys_in stream) (place_of stream id) key has

-- a key that has a number is in use
pub numbered_used : (store : StoreValue) (key : Key) (number : ℕ) → IsNumberOf store key number
    → Contains (unit_keys store) (Some key)
numbered_used store key number is = among_got (unit_keys store) is.0 (Some key) is.1

-- the number and the key of a unit stand at its place
at_one_place : (keys : List (Option Key)) (numbers : List (Option ℕ)) (place : Option ℕ) (key : Key) (number : ℕ)
    → option_and_then (slice_get keys) place ≡ Some (Some key)
    → option_and_then (slice_get numbers) place ≡ Some (Some number)
    → (at : ℕ) × (slice_get keys at ≡ Some (Some key)) × (slice_get numbers at ≡ Some (Some number))
at_one_place keys numbers None key number is so = absurd (cc)
at_one_place keys numbers (Some at) key number is so = (at, is, so)

-- the number of a unit's key is that of the key
pub number_of_unit : (machine : Machine) (id : ℕ) (key : Key) (number : ℕ) → HasKey machine.register.stream id key
    → HasNumber machine id (Some number) → IsNumberOf (store_of machine) key number
number_of_unit machine id key number has (other, has_other, stands) =
    at_one_place (keys_in machine.register.stream) machine.numbers (place_of machine.register.stream id) key number has stands

-- a unit that has a key is there, and has a number
pub has_number : (machine : Machine) (id : ℕ) (key : Key) → HasKey machine.register.stream id key
    → HasNumber machine id None → ⊥
has_number machine id key has none = no_key (sym has ∙ none.0)
  where
    no_key : Some (Some key) ≡ Some None → ⊥
    no_key same = cc

pub has_place : (stream : Stream) (id : ℕ) (key : Key) → HasKey stream id key → place_of stream id ≡ None → ⊥
has_place stream id key has none = nowhere (place_of stream id) none has
  where
    nowhere : (place : Option ℕ) → place ≡ None → option_and_then (slice_get (keys_in stream)) place ≡ Some (Some key) → ⊥
    nowhere None is there = cc
    nowhere (Some at) is there = cc

-- the first unit with a key has it
pub first_has : (journal : List (List Edit)) (n : ℕ) (register : Register) (id : ℕ) (key : Key) → LeadTo journal n register
    → IsFirstWith register.stream key id → HasKey register.stream id key
first_has journal n register id key leads first =
    let place : Some first.at ≡ place_of register.stream id =
    placed (ids_of register.stream) id first.at
    (AreDifferent-ids register (HasIds-journal (edits_of (take n journal)) register leads.replayed)) first.stands in
    ap (option_and_then (slice_get (keys_in register.stream))) (sym place) ∙ first.has

-- numbers stay with the stream and its units' numbers
pub same_number : (old new : Machine) → new.register ≡ old.register → new.numbers ≡ old.numbers → (key : Key) (number : ℕ)
    → IsNumberOf (store_of new) key number → IsNumberOf (store_of old) key number
same_number old new register_is numbers_are key number is = (
  is.0,
  subst (λ (register : Register). slice_get (keys_in register.stream) is.0 ≡ Some (Some key)) register_is is.1,
  subst (λ (numbers : List (Option ℕ)). slice_get numbers is.0 ≡ Some (Some number)) numbers_are is.2,
)

pub same_numbers : (old new : Machine) → new.register ≡ old.register → new.numbers ≡ old.numbers
    → AreOneToOne (store_of new) (store_of new) → AreOneToOne (store_of old) (store_of old)
same_numbers old new register_is numbers_are one key other number another first second =
    one key other number another (same_number new old (sym register_is) (sym numbers_are) key number first)
    (same_number new old (sym register_is) (sym numbers_are) other another second)
