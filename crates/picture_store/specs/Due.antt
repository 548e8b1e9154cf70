-- When the key of a number is due.
use Rattle.std.specs.Prelude.{◌≡◌, ℕ, List, [], ◌∷◌, Contains, Option, None, Some, IfSome, slice_get}
use Rattle.decode_jobs.specs.KeyMaps.{tree_at}
pub use Rattle.held_pictures.specs.Held.{IsHeld}
use Rattle.decode_jobs.specs.Keys.{Key}
use Rattle.picture_store.specs.declared.job_out.JobOut.{JobOut}
use Rattle.held_pictures.specs.KeySlots.{place_at, numbers_held}
use Rattle.picture_store.specs.KeySlots.{KeySlotsValue}
use Rattle.picture_store.specs.Stores.{IsReady}
use Rattle.picture_store.specs.Stored.{Trees, keys_for, numbers_out}

module _ {P : Type 0} where
  -- the pictures of the keys at entries are held
  abbrev pub AreHeld : KeySlotsValue P → List (Option ℕ) → Type 0
  AreHeld key_slots [] = Unit {0}
  AreHeld key_slots (None ∷ entries) = AreHeld key_slots entries
  AreHeld key_slots (Some number ∷ entries) = IsHeld key_slots number × AreHeld key_slots entries

  -- the key of this number is due: it has a place without a picture, is in no job that is out, and
  -- the pictures at its own entries are held
  pub record IsDueNumber (keys : Trees) (key_slots : KeySlotsValue P) (out : List (JobOut P)) (number : ℕ) : Type 0 where
    pub awaited : place_at key_slots number ≡ Some None
    pub free : Contains (numbers_out out) number → ⊥
    pub key : Key
    pub tree : tree_at keys number ≡ Some key
    pub ready : IsReady (keys_for keys (numbers_held key_slots)) key

  -- the number, if there is one, isn't that of a key that is due
  abbrev pub IsNotDue : Trees → KeySlotsValue P → List (JobOut P) → Option ℕ → Type 0
  IsNotDue keys key_slots out number = IfSome number (λ n. IsDueNumber keys key_slots out n → ⊥)

  -- the key of the unit at a place is due
  abbrev pub IsDueThere : Trees → KeySlotsValue P → List (JobOut P) → List (Option ℕ) → ℕ → Type 0
  IsDueThere keys key_slots out numbers at =
      (number : ℕ) × (slice_get numbers at ≡ Some (Some number)) × IsDueNumber keys key_slots out number

  -- the pictures at the own entries of the key of a number are held
  abbrev pub IsReadyNumber : Trees → KeySlotsValue P → ℕ → Type 0
  IsReadyNumber keys key_slots number =
      (key : Key) × (tree_at keys number ≡ Some key) × IsReady (keys_for keys (numbers_held key_slots)) key
