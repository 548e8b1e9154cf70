-- Units that are altered.
use Rattle.std.proofs.Common.{◌≡◌, ℕ, Option, None, Some, option_and_then, slice_get, subst}
use Rattle.std.proofs.lemmas.Option.{none-some}
use Rattle.stand_in_session.specs.Machines.{Machine}
use Rattle.stream_edits.specs.Streams.{place_of}
use Rattle.stream_session.specs.Altered.{IsAltered}
use Rattle.stream_session.specs.Showing.{keys_in}

-- a unit that isn't there is none of them
pub none_altered : (machine : Machine) (id : ℕ) → place_of machine.register.stream id ≡ None → IsAltered machine id → ⊥
none_altered machine id none is = none-some (Some is.key)
    (subst (λ (place : Option ℕ). option_and_then (slice_get (keys_in machine.register.stream)) place ≡ Some (Some is.key)) none is.has)
