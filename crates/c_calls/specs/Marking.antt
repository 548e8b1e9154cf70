-- Marks of the stream, and what is told of units that are altered since.
use Rattle.std.specs.Prelude.{◌≡◌, ◌⊎◌, ℕ, Bool, None, Some, Result, Ok, Err}
use Rattle.stream_session.specs.Altered.{AnswersAltered, with_mark}
use Rattle.c_calls.specs.Machines.{Machine}
use Rattle.c_calls.specs.Statuses.{done, memory, no_such_unit}
use Rattle.c_calls.specs.Telling.{flag}

-- the stream is marked as it is; or memory is refused, and all stays as it was
abbrev pub MarksTo : Machine → ℕ → Machine → Type 0
MarksTo old status new = ((status ≡ done) × (new ≡ with_mark old)) ⊎ ((status ≡ memory) × (new ≡ old))

-- 1 or 0 is told of the unit of the id, or that it isn't there
abbrev pub IsAlteredAnswer : Machine → ℕ → Result ℕ ℕ → Type 0
IsAlteredAnswer machine id (Ok before) = (altered : Bool) × (before ≡ flag altered) × AnswersAltered machine id (Some altered)
IsAlteredAnswer machine id (Err why) = (why ≡ no_such_unit) × AnswersAltered machine id None
