-- What becomes of the place of a key where a result of it lands.
use Rattle.std.specs.Prelude.{◌≡◌, ℕ, ◌==◌, ◌∷◌, IsPermutation, None, Some, if◌then◌else◌}
use Rattle.picture_store.specs.declared.answers.Landing.{Landing}
use Rattle.picture_store.specs.declared.answers.Landing.TheVariants.{Taken, Stale, Foreign}
use Rattle.held_pictures.specs.KeySlots.{place_at, pictures_held}
use Rattle.picture_store.specs.KeySlots.{KeySlotsValue}

module _ {P : Type 0} where
  -- a place that waits for a picture has it afterwards, and none goes; any other place stays
  abbrev pub IsFilled : KeySlotsValue P → ℕ → P → Landing → KeySlotsValue P → Type 0
  IsFilled old number picture Taken new =
      (place_at old number ≡ Some None)
      × ((other : ℕ) → place_at new other ≡ (if number == other then Some (Some picture) else place_at old other))
      × IsPermutation (picture ∷ pictures_held old) (pictures_held new)
  IsFilled old number picture Stale new = (place_at old number ≡ Some None → ⊥) × (new ≡ old)
  IsFilled old number picture Foreign new = ⊥
