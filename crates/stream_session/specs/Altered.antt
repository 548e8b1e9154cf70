-- Which units of a session are altered since its stream was marked.
use Rattle.std.specs.Prelude.{◌≡◌, ℕ, Bool, List, ◌↔◌, Contains, Option, None, Some, IsTrue}
use Rattle.std.specs.List.{filter_map}
use Rattle.decode_jobs.specs.Keys.{Key}
use Rattle.stream_edits.specs.Streams.{Stream, place_of}
use Rattle.stream_session.specs.Machines.{Machine}
use Rattle.stream_session.specs.Showing.{keys_in, HasKey}

-- the keys of the valid units
abbrev pub keys_in_use : Stream → List Key
keys_in_use stream = filter_map (λ key. key) (keys_in stream)

module _ {P : Type 0} where
  -- the stream is marked as it is
  abbrev pub with_mark : Machine P → Machine P
  with_mark machine = record machine { marked = Some (keys_in_use machine.register.stream) }

  -- the unit that has the id is altered: it is valid, a mark was made, and no unit had its key then
  pub record IsAltered (machine : Machine P) (id : ℕ) : Type 0 where
    pub key : Key
    pub has : HasKey machine.register.stream id key
    pub keys : List Key
    pub marked : machine.marked ≡ Some keys
    pub new : Contains keys key → ⊥

  -- no unit is altered
  abbrev pub NoneAltered : Machine P → Type 0
  NoneAltered machine = (id : ℕ) → IsAltered machine id → ⊥

  -- whether the unit that has the id is altered, or that there is no such unit
  abbrev pub AnswersAltered : Machine P → ℕ → Option Bool → Type 0
  AnswersAltered machine id None = place_of machine.register.stream id ≡ None
  AnswersAltered machine id (Some altered) =
      (at : ℕ) × (place_of machine.register.stream id ≡ Some at) × (IsTrue altered ↔ IsAltered machine id)
