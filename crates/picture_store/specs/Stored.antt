-- What is stored, beside what contracts see of it.
use Rattle.std.specs.Prelude.{◌≡◌, ℕ, List, [], ◌⊎◌, ◌↔◌, length, map, All, Contains, Option, Some, IsSome, IsTrue}
use Rattle.std.specs.Option.{unwrap_or}
use Rattle.std.specs.List.{zip}
use Rattle.std.specs.Map.{keys_of as numbers_of}
use Rattle.h264_controls.specs.declared.request.RequestBody.{RequestBody}
use Rattle.unit_outcomes.specs.declared.outcome.Outcome.{Outcome}
use Rattle.decode_jobs.specs.KeyMaps.{KeyMap, IsKeyMap, tree_at}
use Rattle.decode_jobs.specs.Sweeping.{IsSwept}
use Rattle.decode_jobs.specs.Trees.Tree.{Bare}
use Rattle.decode_jobs.specs.Inputs.{InputValue, is_whole}
use Rattle.decode_jobs.specs.Keys.{Key}
use Rattle.picture_keys.specs.Known.{keys_of}
use Rattle.picture_keys.specs.Numbered.{AllStandFor}
use Rattle.picture_keys.specs.Decodable.{AllCanDecode}
use Rattle.picture_store.specs.declared.job_out.JobOut.{JobOut}
use Rattle.picture_store.specs.Stores.{OutValue}
use Rattle.held_pictures.specs.KeySlots.{place_at}
use Rattle.picture_store.specs.KeySlots.{KeySlotsValue}

-- the keys that are stored, under their numbers
abbrev pub Trees : Type 0
Trees = KeyMap (List RequestBody)

-- the key of a number; each number that is stored is live, so that what stands for another doesn't
-- matter
abbrev pub key_for : Trees → ℕ → Key
key_for keys number = unwrap_or (tree_at keys number) (Bare [])

-- the keys of numbers
abbrev pub keys_for : Trees → List ℕ → List Key
keys_for keys numbers = map (key_for keys) numbers

module _ {P : Type 0} where
  -- the jobs that are out, by their keys
  abbrev pub jobs_for : Trees → List (JobOut P) → List (OutValue P)
  jobs_for keys jobs = map (λ job. record { number = job.number; key = key_for keys job.key; input = job.input }) jobs

  -- the numbers of jobs' keys
  abbrev pub numbers_out : List (JobOut P) → List ℕ
  numbers_out jobs = map (λ job. job.key) jobs

module _ {P : Type 0} (IsDecoded : InputValue P → P → Type 0) (IsOf : Key → P → Type 0) where
  -- the picture is one of the number's key
  abbrev pub IsRight : Trees → ℕ → P → Type 0
  IsRight keys number picture = (key : Key) × (tree_at keys number ≡ Some key) × IsOf key picture

  -- what the decoder makes of what a job was given is a picture of its key, and that is whole
  abbrev pub IsJobRight : Trees → JobOut P → Type 0
  IsJobRight keys job =
      (key : Key) × (tree_at keys job.key ≡ Some key) × ((picture : P) → IsDecoded job.input picture → IsOf key picture)
      × IsTrue (is_whole job.input)

  -- each picture that is held is that of its key, where no key has two numbers
  pub record AreRight (keys : Trees) (key_slots : KeySlotsValue P) : Type 0 where
    pub one : IsKeyMap keys
    pub held : (number : ℕ) (picture : P) → place_at key_slots number ≡ Some (Some picture) → IsRight keys number picture

  -- the units' numbers are those of their keys, each key in use has its place and no other has one,
  -- each picture is that of its key, and no key in use is cached
  pub record IsSound (keys : Trees) (ids : List ℕ) (outcomes : List Outcome) (numbers : List (Option ℕ))
      (key_slots : KeySlotsValue P) (cached : List (ℕ × P)) (out : List (JobOut P)) : Type 0 where
    pub right : AreRight keys key_slots
    pub same : length ids ≡ length outcomes
    pub stand : AllStandFor keys numbers (keys_of (zip ids outcomes))
    pub decodable : AllCanDecode [] (zip ids outcomes)
    pub used : (number : ℕ) → IsSome (place_at key_slots number) ↔ Contains numbers (Some number)
    pub stored : All (λ pair. IsRight keys pair.0 pair.1) cached
    pub jobs : All (IsJobRight keys) out

-- marked keys stay
abbrev pub KeepsMarked : List ℕ → Trees → Trees → Type 0
KeepsMarked marked old new =
    (number : ℕ) (key : Key) → Contains marked number → tree_at old number ≡ Some key → tree_at new number ≡ Some key

module _ {P : Type 0} where
  -- a key that is stored: a unit's, a cached one or that of a job
  abbrev pub IsStored : List (Option ℕ) → List (ℕ × P) → List (JobOut P) → ℕ → Type 0
  IsStored numbers cached out number =
      Contains numbers (Some number) ⊎ (Contains (numbers_of cached) number ⊎ Contains (numbers_out out) number)

  -- the keys that are stored stay where others come or go
  abbrev pub KeepsStored : List (Option ℕ) → List (ℕ × P) → List (JobOut P) → Trees → Trees → Type 0
  KeepsStored numbers cached out old new =
      (number : ℕ) (key : Key) → IsStored numbers cached out number → tree_at old number ≡ Some key
      → tree_at new number ≡ Some key

  -- the keys that are stored or marked and those below them are left, and no others
  pub record AreSwept (numbers : List (Option ℕ)) (marked : List ℕ) (cached : List (ℕ × P)) (out : List (JobOut P)) (old new : Trees)
      : Type 0 where
    pub roots : List ℕ
    pub are : (number : ℕ) → Contains roots number ↔ (Contains marked number ⊎ IsStored numbers cached out number)
    pub swept : IsSwept old roots new
