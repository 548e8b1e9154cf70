-- The jobs that are out.
use Rattle.std.specs.Prelude.{◌≡◌, ℕ, ◌<◌, ◌≤◌, Some, slice_get}
use Rattle.picture_store.specs.Stores.{OutValue}
use Rattle.stream_session.specs.Machines.{Machine}

module _ {P : Type 0} where
  -- the jobs that are out have different numbers, from 1 to how many were given, and different keys
  pub record JobsDiffer (machine : Machine P) : Type 0 where
    pub given : (at : ℕ) (job : OutValue P) → slice_get machine.jobs_out at ≡ Some job
        → (0 < job.number) × (job.number ≤ machine.jobs)
    pub differ : (at later : ℕ) (job other : OutValue P) → at < later → slice_get machine.jobs_out at ≡ Some job
        → slice_get machine.jobs_out later ≡ Some other → (job.number < other.number) × (job.key ≡ other.key → ⊥)
