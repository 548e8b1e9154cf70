-- What becomes of held and of cached pictures where a stream changes.
use Rattle.std.specs.Prelude.{◌≡◌, ℕ, List, ◌⊎◌, ◌↔◌, Contains}
use Rattle.unit_outcomes.specs.declared.outcome.Outcome.{Outcome}
use Rattle.decode_jobs.specs.Keys.{Key}
use Rattle.held_pictures.specs.Left.{IsLeft, ArePut}
use Rattle.picture_store.specs.Stores.{StoreValue, AreOneToOne, IsInUse}

module _ {P : Type 0} where
  -- a store takes the units of a changed stream: the keys in use that were held or cached are held,
  -- and leave the cache; then those that were held and are no longer in use are put into it, but for
  -- so many that are lost, as memory ran out; a key that stays in use keeps its number
  pub record Refits (old : StoreValue P) (ids : List ℕ) (outcomes : List Outcome) (new : StoreValue P) : Type 0 where
    pub ids_are : new.ids ≡ ids
    pub outcomes_are : new.outcomes ≡ outcomes
    pub capacity_stays : new.capacity ≡ old.capacity
    pub out_stays : new.jobs_out ≡ old.jobs_out
    pub given_stays : new.jobs_given ≡ old.jobs_given
    pub marked_stays : new.marked ≡ old.marked
    pub numbers_stay : AreOneToOne old new
    pub held_are : (key : Key)
        → Contains new.held key ↔ (IsInUse new key × (Contains old.held key ⊎ Contains old.cached key))
    pub stay : List Key
    pub leave : IsLeft (IsInUse new) old.cached stay
    pub gone : List Key
    pub go : IsLeft (IsInUse new) old.held gone
    pub lost : ℕ
    pub cached_are : ArePut old.capacity gone stay new.cached lost

  -- a store takes the units, and so many pictures are lost
  abbrev pub RefitsLosing : StoreValue P → List ℕ → List Outcome → ℕ → StoreValue P → Type 0
  RefitsLosing old ids outcomes lost new = (refits : Refits old ids outcomes new) × (refits.lost ≡ lost)
