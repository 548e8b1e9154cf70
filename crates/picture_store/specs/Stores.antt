-- What is kept of the pictures of a stream's units.
use Rattle.std.specs.Prelude.{◌≡◌, ℕ, List, [], Option, None, Some, Contains, ◌↔◌, slice_get}
use Rattle.std.specs.List.{zip}
use Rattle.unit_outcomes.specs.declared.outcome.Outcome.{Outcome}
use Rattle.decode_jobs.specs.Trees.Tree.{Bare, Gap, With}
use Rattle.decode_jobs.specs.Inputs.{InputValue}
use Rattle.decode_jobs.specs.Keys.{Key}
use Rattle.picture_keys.specs.Known.{keys_of}
use Rattle.picture_keys.specs.Units.{ComparedUnit, compared_units}
use Rattle.picture_store.specs.Pictures.{Pictures, no_pictures}

-- a job that is out: its number, the key of its picture, and what it was given to decode
pub record OutValue (P : Type 0) : Type 0 where
  pub number : ℕ
  pub key : Key
  pub input : InputValue P

-- the ids of a stream's units, their outcomes, and the number of each unit's key; how many pictures
-- may be cached; the keys whose pictures are held, those whose pictures are cached, the one put
-- last first; the pictures themselves; the jobs that are out; how many numbers of jobs were given;
-- and the keys that the last mark remembers, where one was made
pub record StoreValue (P : Type 0) : Type 0 where
  pub ids : List ℕ
  pub outcomes : List Outcome
  pub numbers : List (Option ℕ)
  pub capacity : ℕ
  pub held : List Key
  pub cached : List Key
  pub pictures : Pictures P
  pub jobs_out : List (OutValue P)
  pub jobs_given : ℕ
  pub marked : Option (List Key)

module _ {P : Type 0} where
  -- before the first unit
  abbrev pub empty : ℕ → StoreValue P
  empty capacity = record {
    ids = [];
    outcomes = [];
    numbers = [];
    capacity = capacity;
    held = [];
    cached = [];
    pictures = no_pictures;
    jobs_out = [];
    jobs_given = 0;
    marked = None;
  }

  -- the units, each with its id and its outcome
  abbrev pub units_of : StoreValue P → List (ℕ × Outcome)
  units_of store = zip store.ids store.outcomes

  -- the key of each unit's picture, nothing for a unit that isn't valid
  abbrev pub unit_keys : StoreValue P → List (Option Key)
  unit_keys store = keys_of (units_of store)

  -- the units as they are compared
  abbrev pub compared_in : StoreValue P → List (ComparedUnit Key)
  compared_in store = compared_units store.ids store.outcomes (unit_keys store)

  -- the key is in use: a valid unit has it
  abbrev pub IsInUse : StoreValue P → Key → Type 0
  IsInUse store key = Contains (unit_keys store) (Some key)

  -- the key has the number: that of a unit's picture, which has the key
  abbrev pub IsNumberOf : StoreValue P → Key → ℕ → Type 0
  IsNumberOf store key number =
      (at : ℕ) × (slice_get (unit_keys store) at ≡ Some (Some key)) × (slice_get store.numbers at ≡ Some (Some number))

  -- each key in use has a number
  abbrev pub AreNumbered : StoreValue P → Type 0
  AreNumbered store = (key : Key) → IsInUse store key → (number : ℕ) × IsNumberOf store key number

  -- the number is that of a key in use
  abbrev pub IsNumberInUse : StoreValue P → ℕ → Type 0
  IsNumberInUse store number = (key : Key) × IsNumberOf store key number

  -- numbers of keys in use before and after are equal exactly where the keys are: one that stays in
  -- use keeps its number, and no other has that
  abbrev pub AreOneToOne : StoreValue P → StoreValue P → Type 0
  AreOneToOne old new =
      (key other : Key) (number another : ℕ) → IsNumberOf old key number → IsNumberOf new other another
      → (number ≡ another) ↔ (key ≡ other)

-- the pictures of the keys at a key's own entries are held
abbrev pub IsReady : List Key → Key → Type 0
IsReady held (Bare bodies) = Unit {0}
IsReady held (Gap rest) = IsReady held rest
IsReady held (With first rest) = Contains held first × IsReady held rest
