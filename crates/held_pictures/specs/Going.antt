-- Units that go, counted by their keys.
use Rattle.std.specs.Prelude.{◌≡◌, ℕ, ◌+◌, ◌<◌, List, [], ◌∷◌, ◌⊎◌, Contains, Some}
use Rattle.held_pictures.specs.declared.key_slots.slots.Slot.{Slot}
use Rattle.held_pictures.specs.Left.{IsPut}
use Rattle.held_pictures.specs.Counting.{once_if}
use Rattle.held_pictures.specs.KeySlots.{place_at, uses_at}

-- numbers rise, and each of them is above this one
abbrev pub AreAbove : ℕ → List ℕ → Type 0
AreAbove least [] = Unit {0}
AreAbove least (number ∷ numbers) = (least < number) × AreAbove number numbers

-- numbers rise
abbrev pub AreRising : List ℕ → Type 0
AreRising [] = Unit {0}
AreRising (number ∷ numbers) = AreAbove number numbers

module _ {P : Type 0} where
  -- numbers of keys in use whose pictures are held, in rising order, among them each one that leaves and has a picture
  pub record IsHeldBefore (held leaving : List ℕ) (key_slots : List (Slot P)) : Type 0 where
    pub rising : AreRising held
    pub pictured : (number : ℕ) → Contains held number → (picture : P) × (place_at key_slots number ≡ Some (Some picture))
    pub among : (number : ℕ) (picture : P) → Contains leaving number → place_at key_slots number ≡ Some (Some picture)
        → Contains held number

  -- one unit less uses a key: the key goes out of use, and its picture, if it has one, is put into the cache or is the one that
  -- is lost; or other units use it still
  pub record Goes (old : List (Slot P)) (key : ℕ) (cached : List ℕ) (capacity : ℕ) (new : List (Slot P)) (more : List ℕ) (lost : ℕ) : Type 0 where
    pub uses : (number : ℕ) → uses_at new number + once_if number key ≡ uses_at old number
    pub stay : (number : ℕ) → 0 < uses_at new number → place_at new number ≡ place_at old number
    pub cache : ((picture : P) × (place_at old key ≡ Some (Some picture)) × (uses_at new key ≡ 0)
        × ((IsPut capacity key cached more × (lost ≡ 0)) ⊎ ((more ≡ cached) × (lost ≡ 1))))
        ⊎ (((picture : P) → place_at old key ≡ Some (Some picture) → 0 < uses_at new key) × (more ≡ cached) × (lost ≡ 0))
