-- Places for pictures by the numbers of keys, each with how many units use the key.
use Rattle.std.specs.Prelude.{◌≡◌, ℕ, suc, Bool, true, false, ◌+◌, ◌<◌, ◌==◌, List, [], ◌∷◌, Option, None, Some, if◌then◌else◌, slice_index_or}
use Rattle.std.specs.List.{cons_option, flat_map}
use Rattle.std.specs.Option.{option_to_list}
use Rattle.std.specs.Map.{lookup}
use Rattle.held_pictures.specs.declared.key_slots.slots.Slot.{Slot}

module _ {P : Type 0} where
  -- the slot of a key that no unit uses
  abbrev pub no_slot : Slot P
  no_slot = record { uses = 0; picture = None }

  -- what stands for the key of a number
  abbrev pub slot_at : List (Slot P) → ℕ → Slot P
  slot_at key_slots number = slice_index_or key_slots number no_slot

  -- how many units use the key of a number
  abbrev pub uses_at : List (Slot P) → ℕ → ℕ
  uses_at key_slots number = (slot_at key_slots number).uses

  -- a slot's place: nothing where no unit uses the key, and else its picture or nothing
  abbrev pub place_of : Slot P → Option (Option P)
  place_of slot = if slot.uses == 0 then None else Some slot.picture

  -- the place of a key: nothing where the key isn't in use, and else its picture or nothing
  abbrev pub place_at : List (Slot P) → ℕ → Option (Option P)
  place_at key_slots number = place_of (slot_at key_slots number)

  -- a picture is held at this place
  abbrev pub is_held : Option (Option P) → Bool
  is_held None = false
  is_held (Some None) = false
  is_held (Some (Some picture)) = true

  -- a key in use has this place, without a picture
  abbrev pub is_awaited : Option (Option P) → Bool
  is_awaited None = false
  is_awaited (Some None) = true
  is_awaited (Some (Some picture)) = false

  -- the number, where its picture is held
  abbrev pub number_held : ℕ → Option (Option P) → Option ℕ
  number_held number None = None
  number_held number (Some None) = None
  number_held number (Some (Some picture)) = Some number

  -- the numbers from this one on whose pictures are held, at these slots
  abbrev pub held_from : ℕ → List (Slot P) → List ℕ
  held_from number [] = []
  held_from number (slot ∷ key_slots) = cons_option (number_held number (place_of slot)) (held_from (suc number) key_slots)

  -- the numbers of the keys whose pictures are held
  abbrev pub numbers_held : List (Slot P) → List ℕ
  numbers_held key_slots = held_from 0 key_slots

  -- the picture that is held at this place, if one is
  abbrev pub picture_held : Option (Option P) → Option P
  picture_held None = None
  picture_held (Some picture) = picture

  -- the pictures that are held at these slots
  abbrev pub pictures_held : List (Slot P) → List P
  pictures_held key_slots = flat_map (λ slot. option_to_list (picture_held (place_of slot))) key_slots

  -- the slots of keys and what is held stay
  pub record AreSame (old new : List (Slot P)) : Type 0 where
    pub slots : (number : ℕ) → slot_at new number ≡ slot_at old number
    pub held : numbers_held new ≡ numbers_held old
    pub pictures : pictures_held new ≡ pictures_held old

  -- a key that one unit more uses has this picture where it comes into use
  abbrev pub taken_up : Slot P → Option P → Slot P
  taken_up slot picture = record { uses = slot.uses + 1; picture = if slot.uses == 0 then picture else slot.picture }

  -- what stands at a place, or else this picture
  abbrev pub kept_or : Option (Option P) → Option P → Option P
  kept_or None picture = picture
  kept_or (Some place) picture = place

  -- so many units more use the key of a number; where it comes into use, it has the picture that is cached
  pub record IsTakenUp (old : List (Slot P)) (cached : List (ℕ × P)) (more : ℕ) (new : List (Slot P)) (number : ℕ) : Type 0 where
    pub uses : uses_at new number ≡ uses_at old number + more
    pub place : 0 < uses_at new number
        → place_at new number ≡ Some (kept_or (place_at old number) (lookup (λ other. number == other) cached))
