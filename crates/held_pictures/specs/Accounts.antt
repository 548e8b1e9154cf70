-- Accounts of pictures, as a bag: those held at places, those cached, and those released, which are the host's again.
use Rattle.std.specs.Prelude.{ℕ, ◌<◌, List, ◌++◌, Contains}
use Rattle.std.specs.Map.{keys_of, values_of}
use Rattle.held_pictures.specs.declared.key_slots.slots.Slot.{Slot}
use Rattle.held_pictures.specs.KeySlots.{pictures_held, uses_at}

module _ {P : Type 0} where
  -- the pictures that are held or cached
  abbrev pub pictures_kept : List (Slot P) → List (ℕ × P) → List P
  pictures_kept key_slots cached = pictures_held key_slots ++ values_of cached

  -- the pictures that are held, cached or released
  abbrev pub pictures_of : List (Slot P) → List (ℕ × P) → List P → List P
  pictures_of key_slots cached released = pictures_kept key_slots cached ++ released

  -- no key in use is cached
  abbrev pub AreApart : List (Slot P) → List (ℕ × P) → Type 0
  AreApart key_slots cached = (number : ℕ) → 0 < uses_at key_slots number → Contains (keys_of cached) number → ⊥
