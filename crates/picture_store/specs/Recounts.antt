-- The places of keys, counted anew where the keys of some units come in the place of those of
-- others.
use Rattle.std.specs.Prelude.{◌≡◌, ℕ, ◌<◌, List, ◌++◌, ◌⊎◌, Contains, Option, Some, IsSome}
use Rattle.std.specs.Map.{keys_of as numbers_of}
use Rattle.held_pictures.specs.Left.{IsLeft, ArePut}
use Rattle.held_pictures.specs.Counting.{times, times_in}
use Rattle.held_pictures.specs.KeySlots.{place_at, uses_at, numbers_held}
use Rattle.picture_store.specs.KeySlots.{KeySlotsValue, ArePlaced}

module _ {P : Type 0} where
  -- each place counts the units that use its key, no key in use is cached, and these are the keys of
  -- the units that go
  pub record IsCountable (key_slots : KeySlotsValue P) (cached : List (ℕ × P)) (front goes back : List (Option ℕ))
      (leaving : List ℕ) : Type 0 where
    pub counted : (number : ℕ) → uses_at key_slots number ≡ times number (front ++ goes ++ back)
    pub apart : (number : ℕ) → 0 < uses_at key_slots number → Contains (numbers_of cached) number → ⊥
    pub leave : (number : ℕ) → times_in number leaving ≡ times number goes

  -- so it is where these keys have come: a key in use has the picture that was held or cached, and
  -- left the cache, into which those went that were held and whose keys are no longer in use, but for
  -- so many that are lost
  pub record IsRecounted (old : KeySlotsValue P) (cached : List (ℕ × P)) (capacity : ℕ) (numbers : List (Option ℕ)) (new : KeySlotsValue P)
      (more : List (ℕ × P)) (lost : ℕ) : Type 0 where
    pub counted : (number : ℕ) → uses_at new number ≡ times number numbers
    pub apart : (number : ℕ) → 0 < uses_at new number → Contains (numbers_of more) number → ⊥
    pub placed : ArePlaced numbers old cached new
    pub left : List (ℕ × P)
    pub leaves : IsLeft (λ number. Contains numbers (Some number)) (numbers_of cached) (numbers_of left)
    pub left_pairs : (number : ℕ) (picture : P) → Contains left (number, picture) → Contains cached (number, picture)
    pub gone : List ℕ
    pub go : IsLeft (λ number. IsSome (place_at new number)) (numbers_held old) gone
    pub puts : ArePut capacity gone (numbers_of left) (numbers_of more) lost
    pub put_pairs : (number : ℕ) (picture : P) → Contains more (number, picture)
        → Contains left (number, picture) ⊎ (place_at old number ≡ Some (Some picture))
