-- A store as contracts see it, from what it stores.
use Rattle.std.proofs.Common.{ℕ, List, Option, OnErr, Result, Ok, Err, rules, ◌≡◌, None, Some, IsSome}
use Rattle.std.specs.Map.{keys_of as numbers_of, values_of}
use Rattle.unit_outcomes.specs.declared.outcome.Outcome.{Outcome}
use Rattle.decode_jobs.specs.Keys.{Key}
use Rattle.picture_store.specs.declared.job_out.JobOut.{JobOut}
use Rattle.picture_store.specs.Stores.{OutValue, StoreValue}
use Rattle.held_pictures.specs.KeySlots.{numbers_held, pictures_held}
use Rattle.picture_store.specs.KeySlots.{KeySlotsValue}
use Rattle.picture_store.specs.Stored.{Trees, key_for, keys_for, jobs_for}

-- the marked keys as contracts see them
abbrev pub Marked : Type 0
Marked = Option (List Key)

module _ {P : Type 0} where
  -- a job that is out as contracts see it
  abbrev pub seen : Trees → JobOut P → OutValue P
  seen keys job = record { number = job.number; key = key_for keys job.key; input = job.input }

  -- a store as contracts see it
  abbrev pub viewed : Trees → List ℕ → List Outcome → List (Option ℕ) → KeySlotsValue P → List (ℕ × P) → ℕ → List (JobOut P) → ℕ
      → List P → Marked → StoreValue P
  viewed keys ids outcomes numbers key_slots cached capacity out given released marked = record {
    ids = ids;
    outcomes = outcomes;
    numbers = numbers;
    capacity = capacity;
    held = keys_for keys (numbers_held key_slots);
    cached = keys_for keys (numbers_of cached);
    pictures = record { held = pictures_held key_slots; cached = values_of cached; released = released };
    jobs_out = jobs_for keys out;
    jobs_given = given;
    marked = marked;
  }

-- what holds anyhow holds where a call ran out of memory
pub on_any_err : {T E Q : Type 0} (r : Result T E) → Q → OnErr r Q
on_any_err (Ok x) p = search rules
on_any_err (Err e) p = p

-- where nothing is found, there is nothing
pub none_not_some : {X : Type 0} (o : Option X) → o ≡ None → IsSome o → ⊥
none_not_some None none some = cc
none_not_some (Some x) none some = cc
