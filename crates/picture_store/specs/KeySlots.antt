-- Places for pictures, one for each key in use.
use Rattle.std.specs.Prelude.{◌≡◌, ℕ, ◌==◌, List, ◌⊎◌, Contains, Option, None, Some}
use Rattle.std.specs.Map.{lookup}
use Rattle.held_pictures.specs.declared.key_slots.slots.Slot.{Slot}
use Rattle.held_pictures.specs.KeySlots.{place_at}

-- keys in use under their numbers, each with its picture where that is held
abbrev pub KeySlotsValue : Type 0 → Type 0
KeySlotsValue P = List (Slot P)

module _ {P : Type 0} where
  -- a picture that is held, or else another one
  abbrev pub held_or : Option (Option P) → Option P → Option P
  held_or (Some (Some picture)) other = Some picture
  held_or place other = other

  -- the picture that a key in use has: the one that was held, or else the one that was cached
  abbrev pub carried : KeySlotsValue P → List (ℕ × P) → ℕ → Option P
  carried key_slots cached number = held_or (place_at key_slots number) (lookup (λ other. number == other) cached)

  -- there is a place for each key of the units, with the picture that was held or cached, and no
  -- other place
  abbrev pub ArePlaced : List (Option ℕ) → KeySlotsValue P → List (ℕ × P) → KeySlotsValue P → Type 0
  ArePlaced numbers old cached key_slots =
      (number : ℕ)
      → (Contains numbers (Some number) × (place_at key_slots number ≡ Some (carried old cached number)))
      ⊎ ((Contains numbers (Some number) → ⊥) × (place_at key_slots number ≡ None))
