-- Which units' pictures are held.
use Rattle.std.specs.Prelude.{◌≡◌, ℕ, List, Option, Some, Contains, slice_get}
use Rattle.held_pictures.specs.declared.key_slots.slots.Slot.{Slot}
use Rattle.held_pictures.specs.KeySlots.{place_at}

module _ {P : Type 0} where
  -- the picture of the key of this number is held
  abbrev pub IsHeld : List (Slot P) → ℕ → Type 0
  IsHeld key_slots number = (picture : P) × (place_at key_slots number ≡ Some (Some picture))

  -- the unit at a place is valid, and the picture of its key isn't held
  abbrev pub IsWaiting : List (Option ℕ) → List (Slot P) → ℕ → Type 0
  IsWaiting numbers key_slots at = (number : ℕ) × (slice_get numbers at ≡ Some (Some number)) × (IsHeld key_slots number → ⊥)

  -- each id is there at whose entry stands a key whose picture isn't held
  abbrev pub AreWanted : List (Slot P) → List (Option ℕ) → List (Option ℕ) → List ℕ → Type 0
  AreWanted key_slots units entries wanted =
      (i id number : ℕ) → slice_get units i ≡ Some (Some id) → slice_get entries i ≡ Some (Some number)
      → (IsHeld key_slots number → ⊥) → Contains wanted id
