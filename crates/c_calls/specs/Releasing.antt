-- Surfaces that go back to the host, and what is told of them.
use Rattle.std.specs.Prelude.{◌≡◌, ◌≤◌, ◌++◌, ◌⊎◌, ℕ, List, length, map, All, IsPermutation, Option, Result, Ok, Err}
use Rattle.std.specs.Option.{option_map}
use Rattle.decode_jobs.specs.declared.surfaces.surface.Surface.{Surface}
use Rattle.picture_store.specs.Released.{IsUnreferred}
use Rattle.stream_session.specs.declared.showing.Dropped.{Dropped}
use Rattle.stream_session.specs.declared.showing.Dropped.TheVariants as dropped
use Rattle.stream_session.specs.Needing.{AnswersDrop, AnswersUncache}
use Rattle.c_calls.specs.Grouping.{filled}
use Rattle.c_calls.specs.Machines.{IsPicture, Machine}
use Rattle.c_calls.specs.Statuses.{done, no_such_unit, not_held}
use Rattle.c_calls.specs.Telling.{Tells, found_or}

-- the handle of a surface
abbrev pub handle_of : Surface → ℕ
handle_of surface = surface.handle

-- the surface that is dropped, or why none is
abbrev pub as_dropped : Dropped Surface → Result ℕ ℕ
as_dropped (dropped.Picture surface) = Ok surface.handle
as_dropped dropped.NotHeld = Err not_held
as_dropped dropped.NoSuchUnit = Err no_such_unit

-- the surface of the unit of the id goes back, or it is said why not
abbrev pub DropsTo : Machine → ℕ → ℕ → ℕ → ℕ → Machine → Type 0
DropsTo old id status before after new =
    (answer : Dropped Surface) × AnswersDrop IsPicture old id answer new × Tells (as_dropped answer) status before after

-- the surface that was cached first goes back, or none is cached
abbrev pub UncachesTo : Machine → ℕ → ℕ → ℕ → Machine → Type 0
UncachesTo old status before after new =
    (answer : Option Surface) × AnswersUncache IsPicture old answer new
    × Tells (found_or not_held (option_map handle_of answer)) status before after

-- these surfaces go back: what was released is, as a bag, they and what is released then; no job
-- that is out refers to one of them; nothing else changes
pub record Release (old : Machine) (surfaces : List Surface) (new : Machine) : Type 0 where
  pub back : IsPermutation old.pictures.released (surfaces ++ new.pictures.released)
  pub unreferred : All (IsUnreferred old.jobs_out) surfaces
  pub keeps : new ≡ record old { pictures = record old.pictures { released = new.pictures.released } }

-- a job that is out refers to each surface that is released
abbrev pub IsNoneLeft : Machine → Type 0
IsNoneLeft machine = All (λ surface. IsUnreferred machine.jobs_out surface → ⊥) machine.pictures.released

-- as many surfaces go back as there is room for, or all that can; they are told at the start of the
-- room, and how many they are
abbrev pub GoBack : Machine → List ℕ → ℕ → List ℕ → Machine → Type 0
GoBack old before count after new =
    (surfaces : List Surface) × Release old surfaces new × (count ≡ length surfaces) × (count ≤ length before)
    × ((count ≡ length before) ⊎ IsNoneLeft new) × (after ≡ filled (map handle_of surfaces) before)

-- so it is, with this status
abbrev pub ReleasesTo : Machine → ℕ → List ℕ → List ℕ → ℕ → Machine → Type 0
ReleasesTo old status before after count new = (status ≡ done) × GoBack old before count after new
