-- When all that is wanted is done.
use Rattle.std.specs.Prelude.{◌≡◌, ◌≢◌, ◌⊎◌, ℕ, true, false, List, [], Some, slice_get}
use Rattle.decode_jobs.specs.Keys.{Key}
use Rattle.stream_session.specs.declared.showing.Shown.{Shown}
use Rattle.stream_session.specs.declared.showing.Shown.TheVariants as shown
use Rattle.stream_session.specs.Machines.{Machine}
use Rattle.stream_session.specs.Showing.{Shows}
use Rattle.worker_jobs.specs.Wanted.{Wants, urgent}

module _ {P : Type 0} (IsOf : Key → P → Type 0) where
  -- something else is shown of the unit that has the id than that it is pending
  abbrev pub IsSettled : Machine P → ℕ → Type 0
  IsSettled machine id = (answer : Shown P) × Shows IsOf machine id answer × (answer ≡ shown.Pending → ⊥)

  -- none of the units of the ids is pending
  abbrev pub AreSettled : Machine P → List ℕ → Type 0
  AreSettled machine ids = (at id : ℕ) → slice_get ids at ≡ Some id → IsSettled machine id

  -- one of the units of the ids is pending
  abbrev pub IsAnyPending : Machine P → List ℕ → Type 0
  IsAnyPending machine ids = (at id : ℕ) × (slice_get ids at ≡ Some id) × Shows IsOf machine id shown.Pending

  -- the rest isn't wanted, no wanted unit is pending, and no job is out
  pub record IsAtRest (machine : Machine P) (wants : Wants) : Type 0 where
    pub off : wants.rest ≡ false
    pub settled : AreSettled machine (urgent wants)
    pub none_out : machine.jobs_out ≡ []

  -- the rest is wanted, or a wanted unit is pending, or a job is out
  abbrev pub MayNotRest : Machine P → Wants → Type 0
  MayNotRest machine wants =
      (wants.rest ≡ true) ⊎ (IsAnyPending machine (urgent wants) ⊎ (machine.jobs_out ≢ []))
