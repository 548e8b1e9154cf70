-- Units that are pending, the units that each of them needs, and which of these are due.
use Rattle.std.specs.Prelude.{ℕ, map, Contains}
use Rattle.held_pictures.specs.Needed.{IsNeeded}
use Rattle.decode_jobs.specs.Keys.{Key}
use Rattle.picture_store.specs.Stores.{StoreValue, units_of}
use Rattle.picture_store.specs.Showing.{HasKey}
use Rattle.picture_store.specs.Jobs.{IsDue}

module _ {P : Type 0} where
  -- the unit at a place is pending: it is valid, and its key isn't held
  abbrev pub IsPending : StoreValue P → ℕ → Type 0
  IsPending store at = (key : Key) × HasKey store at key × (Contains store.held key → ⊥)

  -- the unit at the second place is a needed unit of that at the first: it is in the least set that
  -- has this one and, with each of its units, each unit that its lists name, of those that are
  -- pending
  abbrev pub IsNeededBy : StoreValue P → ℕ → ℕ → Type 0
  IsNeededBy store target at = IsNeeded (units_of store) (IsPending store) target at

  -- the key of the unit at a place is due
  abbrev pub IsDueAt : StoreValue P → ℕ → Type 0
  IsDueAt store at = (key : Key) × HasKey store at key × IsDue store key

  -- the key of the unit at a place is out
  abbrev pub IsOutAt : StoreValue P → ℕ → Type 0
  IsOutAt store at = (key : Key) × HasKey store at key × Contains (map (λ job. job.key) store.jobs_out) key

  -- some needed unit of that at a place is due
  abbrev pub IsAnyDueBy : StoreValue P → ℕ → Type 0
  IsAnyDueBy store target = (at : ℕ) × IsNeededBy store target at × IsDueAt store at

  -- the key of some needed unit of that at a place is out
  abbrev pub IsAnyOutBy : StoreValue P → ℕ → Type 0
  IsAnyOutBy store target = (at : ℕ) × IsNeededBy store target at × IsOutAt store at

  -- a pending unit is stuck: none of its needed units is due, and the key of none is out
  pub record IsStuck (store : StoreValue P) (at : ℕ) : Type 0 where
    pub pending : IsPending store at
    pub none_due : IsAnyDueBy store at → ⊥
    pub none_out : IsAnyOutBy store at → ⊥
