-- A picture that is held is among those that are.
use Rattle.std.proofs.Common.{◌≡◌, sym, ap, subst, ℕ, zero, suc, List, [], ◌∷◌, Option, None, Some}
use Rattle.std.specs.Prelude.{All, Contains}
use Rattle.std.specs.Option.{option_and_then, option_to_list}
use Rattle.std.proofs.lemmas.List.Elements.{All-weaker, Contains-append_left, Contains-append_right}
use Rattle.decode_jobs.specs.declared.input.Reference.{Reference}
use Rattle.held_pictures.specs.declared.key_slots.slots.Slot.{Slot}
use Rattle.held_pictures.specs.KeySlots.{picture_held, pictures_held, place_at, place_of}
use Rattle.held_pictures.proofs.Members.{here}
use Rattle.picture_store.specs.Naming.{IsShown, picture_in}
use Rattle.picture_store.specs.KeySlots.{KeySlotsValue}

module _ {P : Type 0} where
  -- the picture of a slot, if it has one
  abbrev held_of : Slot P → List P
  held_of slot = option_to_list (picture_held (place_of slot))

  -- the picture that is held at a place
  pub held_among : (key_slots : List (Slot P)) (number : ℕ) (picture : P) → place_at key_slots number ≡ Some (Some picture)
      → Contains (pictures_held key_slots) picture
  held_among [] number picture is = cc
  held_among (slot ∷ key_slots) zero picture is =
      Contains-append_left (held_of slot) (pictures_held key_slots) picture
      (subst (λ place. Contains (option_to_list (picture_held place)) picture) (sym is) (here picture []))
  held_among (slot ∷ key_slots) (suc number) picture is =
      Contains-append_right (held_of slot) (pictures_held key_slots) picture (held_among key_slots number picture is)

  has_picture : (place : Option (Option P)) (picture : P) → option_and_then (λ held. held) place ≡ Some picture
      → place ≡ Some (Some picture)
  has_picture None picture is = cc
  has_picture (Some held) picture is = ap Some is

  module _ (key_slots : KeySlotsValue P) (units entries : List (Option ℕ)) where
    at_entry : (entry : Option ℕ) (picture : P) → picture_in key_slots entry ≡ Some picture → Contains (pictures_held key_slots) picture
    at_entry None picture is = cc
    at_entry (Some number) picture is = held_among key_slots number picture (has_picture (place_at key_slots number) picture is)

    -- those of references that are shown
    pub shown_among : (references : List (Reference P)) → All (IsShown key_slots units entries) references
        → All (λ reference. Contains (pictures_held key_slots) reference.picture) references
    shown_among references all =
        All-weaker (IsShown key_slots units entries) (λ reference. Contains (pictures_held key_slots) reference.picture)
        (λ reference shown. at_entry shown.1 reference.picture shown.4) references all
