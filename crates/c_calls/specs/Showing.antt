-- What is shown of a unit, and told.
use Rattle.std.specs.Prelude.{ℕ, Result, Ok, Err}
use Rattle.decode_jobs.specs.declared.surfaces.surface.Surface.{Surface}
use Rattle.stream_session.specs.declared.showing.Shown.{Shown}
use Rattle.stream_session.specs.declared.showing.Shown.TheVariants as shown
use Rattle.stream_session.specs.Showing.{Shows}
use Rattle.c_calls.specs.Machines.{IsPicture, Machine}
use Rattle.c_calls.specs.Statuses.{has_fault, no_picture, no_such_unit, pending}
use Rattle.c_calls.specs.Telling.{Tells}

-- the surface that is shown, or why none is
abbrev pub as_shown : Shown Surface → Result ℕ ℕ
as_shown (shown.Ready surface) = Ok surface.handle
as_shown shown.Pending = Err pending
as_shown (shown.Fault fault) = Err has_fault
as_shown shown.Empty = Err no_picture
as_shown shown.NoSuchUnit = Err no_such_unit

-- what is shown of the unit of the id is told
abbrev pub ShowsTo : Machine → ℕ → ℕ → ℕ → ℕ → Type 0
ShowsTo machine id status before after =
    (shows : Shown Surface) × Shows IsPicture machine id shows × Tells (as_shown shows) status before after
