-- The number of a unit's key, and what is told of it.
use Rattle.std.specs.Prelude.{◌≡◌, ◌⊎◌, ℕ, List, Contains, Option, None, Some, Result, Ok, Err}
use Rattle.stream_edits.specs.Streams.{place_of}
use Rattle.picture_store.specs.Stores.{AreOneToOne}
use Rattle.c_calls.specs.Machines.{Machine}
use Rattle.stream_session.specs.Machines.{store_of}
use Rattle.stream_session.specs.Showing.{HasNumber}
use Rattle.c_calls.specs.Statuses.{no_such_unit, not_valid}

-- what is known of the number of the key of the unit of the id: the number, and that units have
-- equal numbers exactly where they have equal keys; that the unit isn't valid, or that it isn't
-- there
abbrev pub IsKeyOf : Machine → ℕ → Result ℕ ℕ → Type 0
IsKeyOf machine id (Ok number) =
    HasNumber machine id (Some number) × AreOneToOne (store_of machine) (store_of machine)
IsKeyOf machine id (Err why) =
    ((why ≡ not_valid) × HasNumber machine id None)
    ⊎ ((why ≡ no_such_unit) × (place_of machine.register.stream id ≡ None))

-- 1 is told where some unit has the number, else 0
abbrev pub TellsUse : List (Option ℕ) → ℕ → ℕ → Type 0
TellsUse numbers number before =
    (Contains numbers (Some number) × (before ≡ 1)) ⊎ ((Contains numbers (Some number) → ⊥) × (before ≡ 0))
