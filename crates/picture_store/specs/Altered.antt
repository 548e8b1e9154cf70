-- Which units are altered since the stream was marked.
use Rattle.std.specs.Prelude.{◌≡◌, ℕ, List, Some, Contains}
use Rattle.std.specs.List.{filter_map}
use Rattle.decode_jobs.specs.Keys.{Key}
use Rattle.picture_store.specs.Stores.{StoreValue, unit_keys}
use Rattle.picture_store.specs.Showing.{HasKey}

module _ {P : Type 0} where
  -- the keys of the valid units
  abbrev pub keys_in_use : StoreValue P → List Key
  keys_in_use store = filter_map (λ key. key) (unit_keys store)

  -- the stream is marked as it is
  abbrev pub with_mark : StoreValue P → StoreValue P
  with_mark store = record store { marked = Some (keys_in_use store) }

  -- the unit at a place is altered: it is valid, a mark was made, and no unit had its key then
  pub record IsAltered (store : StoreValue P) (at : ℕ) : Type 0 where
    pub key : Key
    pub has : HasKey store at key
    pub keys : List Key
    pub marked : store.marked ≡ Some keys
    pub new : Contains keys key → ⊥
