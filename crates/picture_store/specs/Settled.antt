-- How many units, from the first on, need no job, and what is stored.
use Rattle.std.specs.Prelude.{◌≡◌, ℕ, ◌<◌, ◌≤◌, List, ◌⊎◌, length, take, All, Contains, Option, IfSome}
use Rattle.std.specs.List.{zip}
use Rattle.std.specs.Map.{keys_of as numbers_of}
use Rattle.unit_outcomes.specs.declared.outcome.Outcome.{Outcome}
use Rattle.held_pictures.specs.Counting.{times}
use Rattle.held_pictures.specs.KeySlots.{uses_at}
use Rattle.picture_store.specs.declared.job_out.JobOut.{JobOut}
use Rattle.picture_store.specs.declared.schedule.Schedule.{Schedule}
use Rattle.picture_store.specs.KeySlots.{KeySlotsValue}
use Rattle.picture_store.specs.Stored.{Trees, numbers_out, IsSound}
use Rattle.picture_store.specs.Marks.{AreMarked}
use Rattle.picture_store.specs.Due.{IsHeld}
use Rattle.picture_store.specs.Looked.{AreNotDue, IsBehind}
use Rattle.picture_store.specs.Schedules.{IsScheduled}
use Rattle.decode_jobs.specs.Inputs.{InputValue}
use Rattle.decode_jobs.specs.Keys.{Key}

module _ {P : Type 0} where
  -- the unit of this number needs no job: it has no key, or the picture of its key is held or that of
  -- a job that is out
  abbrev pub NeedsNone : KeySlotsValue P → List (JobOut P) → Option ℕ → Type 0
  NeedsNone key_slots out number = IfSome number (λ n. IsHeld key_slots n ⊎ Contains (numbers_out out) n)

  -- so many units, from the first on, need none
  abbrev pub AreSettled : KeySlotsValue P → List (JobOut P) → List (Option ℕ) → ℕ → Type 0
  AreSettled key_slots out numbers count = (count ≤ length numbers) × All (NeedsNone key_slots out) (take count numbers)

module _ {P : Type 0} (IsDecoded : InputValue P → P → Type 0) (IsOf : Key → P → Type 0) where
  -- what is stored: what is kept of the stream, where each place counts the units that use its key
  -- and no key in use is cached; how many units are known to need no job, and how many not to be due;
  -- no unit before a job's place has its key; the schedule of the units that one needs; and the
  -- numbers of the marked keys
  pub record IsStored (keys : Trees) (ids : List ℕ) (outcomes : List Outcome) (numbers : List (Option ℕ))
      (key_slots : KeySlotsValue P) (cached : List (ℕ × P)) (out : List (JobOut P)) (count passed : ℕ) (schedule : Option Schedule)
      (mark : Option (List ℕ)) : Type 0 where
    pub kept : IsSound IsDecoded IsOf keys ids outcomes numbers key_slots cached out
    pub counted : (number : ℕ) → uses_at key_slots number ≡ times number numbers
    pub apart : (number : ℕ) → 0 < uses_at key_slots number → Contains (numbers_of cached) number → ⊥
    pub settled : AreSettled key_slots out numbers count
    pub searched : AreNotDue keys key_slots out numbers passed
    pub behind : All (IsBehind numbers) out
    pub scheduled : IsScheduled keys (zip ids outcomes) numbers key_slots out schedule
    pub marked : AreMarked keys mark
