-- How many units, from the first on, aren't due, and where the units of jobs stand.
use Rattle.std.specs.Prelude.{◌≡◌, ℕ, ◌<◌, ◌≤◌, min, List, length, take, All, Option, Some, slice_get}
use Rattle.picture_store.specs.declared.job_out.JobOut.{JobOut}
use Rattle.picture_store.specs.KeySlots.{KeySlotsValue}
use Rattle.picture_store.specs.Stored.{Trees}
use Rattle.picture_store.specs.Due.{IsNotDue}

module _ {P : Type 0} where
  -- of so many units, from the first on, none is due
  abbrev pub AreNotDue : Trees → KeySlotsValue P → List (JobOut P) → List (Option ℕ) → ℕ → Type 0
  AreNotDue keys key_slots out numbers count = (count ≤ length numbers) × All (IsNotDue keys key_slots out) (take count numbers)

  -- no unit before the job's place has its key
  abbrev pub IsBehind : List (Option ℕ) → JobOut P → Type 0
  IsBehind numbers job = (at : ℕ) → at < job.first_place → slice_get numbers at ≡ Some (Some job.key) → ⊥

  -- the job, with this place or an earlier one
  abbrev pub lowered : ℕ → JobOut P → JobOut P
  lowered from job = record job { first_place = min job.first_place from }
