-- The picture that is shown of a unit, and the number of its key.
use Rattle.std.specs.Prelude.{◌≡◌, ℕ, Contains, Option, None, Some, slice_get}
use Rattle.decode_jobs.specs.Keys.{Key}
use Rattle.picture_store.specs.Stores.{StoreValue, unit_keys}

module _ {P : Type 0} where
  -- the unit at a place has the key
  abbrev pub HasKey : StoreValue P → ℕ → Key → Type 0
  HasKey store at key = slice_get (unit_keys store) at ≡ Some (Some key)

module _ {P : Type 0} (IsOf : Key → P → Type 0) where
  -- what is shown of the unit at a place: a picture of its key, one of those that are held, where the
  -- key is held, and else nothing
  abbrev pub IsPictureAt : StoreValue P → ℕ → Option P → Type 0
  IsPictureAt store at (Some picture) =
      (key : Key) × HasKey store at key × Contains store.held key × IsOf key picture
      × Contains store.pictures.held picture
  IsPictureAt store at None = (key : Key) → HasKey store at key → Contains store.held key → ⊥

module _ {P : Type 0} where
  -- the number of the key of the unit at a place: nothing for one that isn't valid, which has no key
  abbrev pub IsNumberAt : StoreValue P → ℕ → Option ℕ → Type 0
  IsNumberAt store at (Some number) =
      (key : Key) × HasKey store at key × (slice_get store.numbers at ≡ Some (Some number))
  IsNumberAt store at None = (slice_get (unit_keys store) at ≡ Some None) × (slice_get store.numbers at ≡ Some None)
