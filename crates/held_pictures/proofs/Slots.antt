-- Slots that change one by one.
use Rattle.std.proofs.Common.{◌≡◌, refl, ap, sym, subst, ◌∙◌, ℕ, zero, suc, ◌+◌, ◌<◌, Bool, true, false, ◌==◌, List, [], ◌∷◌, ◌++◌, length, Option, None, Some, IsSome, if◌then◌else◌, arith}
use Rattle.std.specs.Prelude.{slice_set}
use Rattle.std.specs.List.{cons_option}
use Rattle.std.specs.Option.{option_to_list}
use Rattle.std.proofs.lemmas.Bool.{eqb-true, eq-eqb}
use Rattle.std.proofs.lemmas.List.{get_or-set_same, get_or-set_other}
use Rattle.held_pictures.specs.declared.key_slots.slots.Slot.{Slot}
use Rattle.held_pictures.specs.Counting.{once_if}
use Rattle.held_pictures.specs.KeySlots.{AreSame, no_slot, slot_at, uses_at, place_of, place_at, picture_held, pictures_held, number_held, held_from}

not_same : (a b : ℕ) → false ≡ (a == b) → a ≡ b → ⊥
not_same a b differ same =
    let yes : (a == b) ≡ true = eq-eqb a b same in
    cc

module _ {P : Type 0} where
  -- a place by whether no unit uses the key
  abbrev place_if : Bool → Option P → Option (Option P)
  place_if none picture = if none then None else Some picture

  place_by : (b : Bool) (uses : ℕ) (picture : Option P) → b ≡ (uses == 0) → 0 < uses → place_if b picture ≡ Some picture
  place_by true uses picture is used = absurd (omega (arith, used, eqb-true uses 0 (sym is)))
  place_by false uses picture is used = refl

  -- the place of a key that units use
  pub place_used : (slot : Slot P) → 0 < slot.uses → place_of slot ≡ Some slot.picture
  place_used slot used = place_by (slot.uses == 0) slot.uses slot.picture refl used

  none_by : (b : Bool) (uses : ℕ) (picture : Option P) → b ≡ (uses == 0) → uses ≡ 0 → place_if b picture ≡ None
  none_by true uses picture is none = refl
  none_by false uses picture is none = absurd (not_same uses 0 is none)

  -- and of one that no unit uses
  pub place_unused : (slot : Slot P) → slot.uses ≡ 0 → place_of slot ≡ None
  place_unused slot none = none_by (slot.uses == 0) slot.uses slot.picture refl none

  used_by : (b : Bool) (uses : ℕ) (picture : Option P) → b ≡ (uses == 0) → IsSome (place_if b picture) → 0 < uses
  used_by true uses picture is some = absurd cc
  used_by false uses picture is some =
      let not : uses ≡ 0 → ⊥ = not_same uses 0 is in
      omega (arith, not)

  -- a key that has a place is in use
  pub used_some : (key_slots : List (Slot P)) (number : ℕ) → IsSome (place_at key_slots number) → 0 < uses_at key_slots number
  used_some key_slots number some =
      used_by (uses_at key_slots number == 0) (uses_at key_slots number) (slot_at key_slots number).picture refl some

  pub some_used : (key_slots : List (Slot P)) (number : ℕ) → 0 < uses_at key_slots number → IsSome (place_at key_slots number)
  some_used key_slots number used = subst IsSome (sym (place_used (slot_at key_slots number) used)) refl

  slot_more : (key_slots : List (Slot P)) (number : ℕ) → slot_at (key_slots ++ no_slot ∷ []) number ≡ slot_at key_slots number
  slot_more [] zero = refl
  slot_more [] (suc number) = refl
  slot_more (slot ∷ key_slots) zero = refl
  slot_more (slot ∷ key_slots) (suc number) = slot_more key_slots number

  held_more : (number : ℕ) (key_slots : List (Slot P)) → held_from number (key_slots ++ no_slot ∷ []) ≡ held_from number key_slots
  held_more number [] = refl
  held_more number (slot ∷ key_slots) = ap (cons_option (number_held number (place_of slot))) (held_more (suc number) key_slots)

  pictures_more : (key_slots : List (Slot P)) → pictures_held (key_slots ++ no_slot ∷ []) ≡ pictures_held key_slots
  pictures_more [] = refl
  pictures_more (slot ∷ key_slots) = ap (λ rest. option_to_list (picture_held (place_of slot)) ++ rest) (pictures_more key_slots)

  -- a slot more that no unit uses
  pub pushed_same : (key_slots : List (Slot P)) → AreSame key_slots (key_slots ++ no_slot ∷ [])
  pushed_same key_slots = record { slots = slot_more key_slots; held = held_more 0 key_slots; pictures = pictures_more key_slots }

  pub used_within : (key_slots : List (Slot P)) (number : ℕ) → 0 < uses_at key_slots number → number < length key_slots
  used_within [] number used = absurd (omega (arith, used))
  used_within (slot ∷ key_slots) zero used = omega arith
  used_within (slot ∷ key_slots) (suc number) used = omega (arith, used_within key_slots number used)

  module _ (old new : List (Slot P)) (key : ℕ) (slot : Slot P) (within : key < length old) (is : new ≡ slice_set old key slot) where
    pub at_key : slot_at new key ≡ slot
    at_key = ap (λ (key_slots : List (Slot P)). slot_at key_slots key) is ∙ get_or-set_same old key slot no_slot within

    pub at_other : (number : ℕ) → (key ≡ number → ⊥) → slot_at new number ≡ slot_at old number
    at_other number apart =
        ap (λ (key_slots : List (Slot P)). slot_at key_slots number) is
        ∙ get_or-set_other old key number slot no_slot (λ same. apart (sym same))

  -- one unit less uses a key
  module _ (old new : List (Slot P)) (key uses : ℕ) (more : uses_at old key ≡ uses + 1)
      (is : new ≡ slice_set old key (record { uses = uses; picture = (slot_at old key).picture })) where
    there : key < length old
    there = used_within old key (omega (arith, more))

    new_slot : slot_at new key ≡ record { uses = uses; picture = (slot_at old key).picture }
    new_slot = at_key old new key (record { uses = uses; picture = (slot_at old key).picture }) there is

    old_slot : (number : ℕ) → (key ≡ number → ⊥) → slot_at new number ≡ slot_at old number
    old_slot number apart = at_other old new key (record { uses = uses; picture = (slot_at old key).picture }) there is number apart

    pub uses_left : uses_at new key ≡ uses
    uses_left = ap (λ (slot : Slot P). slot.uses) new_slot

    uses_split : (b : Bool) (number : ℕ) → b ≡ (key == number) → uses_at new number + (if b then 1 else 0) ≡ uses_at old number
    uses_split true number same =
        subst (λ n. uses_at new n + 1 ≡ uses_at old n) (eqb-true key number (sym same)) (omega (arith, uses_left, more))
    uses_split false number same =
        omega (arith, ap (λ (slot : Slot P). slot.uses) (old_slot number (not_same key number same)))

    pub uses_less : (number : ℕ) → uses_at new number + once_if number key ≡ uses_at old number
    uses_less number = uses_split (key == number) number refl

    stay_split : (b : Bool) (number : ℕ) → b ≡ (key == number) → 0 < uses_at new number → place_at new number ≡ place_at old number
    stay_split true number same used =
        let one : key ≡ number = eqb-true key number (sym same) in
        subst (λ n. place_at new n ≡ place_at old n) one
        (place_used (slot_at new key) (subst (λ n. 0 < uses_at new n) (sym one) used)
        ∙ ap (λ (slot : Slot P). Some slot.picture) new_slot
        ∙ sym (place_used (slot_at old key) (omega (arith, more))))
    stay_split false number same used = ap place_of (old_slot number (not_same key number same))

    pub places_stay : (number : ℕ) → 0 < uses_at new number → place_at new number ≡ place_at old number
    places_stay number = stay_split (key == number) number refl

  gone_by : (b : Bool) (uses : ℕ) (place : Option P) (picture : P) → b ≡ (uses == 1) → (if b then place else None) ≡ Some picture
      → (uses ≡ 1) × (place ≡ Some picture)
  gone_by true uses place picture one is = (eqb-true uses 1 (sym one), is)
  gone_by false uses place picture one is = absurd cc

  -- a picture that is given back was that of a key that goes out of use
  pub gone_from : (uses : ℕ) (place : Option P) (picture : P) → (if uses == 1 then place else None) ≡ Some picture
      → (uses ≡ 1) × (place ≡ Some picture)
  gone_from uses place picture is = gone_by (uses == 1) uses place picture refl is

  -- where none is given back, a key with a picture is in use still
  pub not_gone : (uses : ℕ) (place result : Option P) (picture : P) → result ≡ (if uses == 1 then place else None) → result ≡ None
      → place ≡ Some picture → uses ≡ 1 → ⊥
  not_gone uses place result picture is none some one =
      let at_one : result ≡ place = subst (λ u. result ≡ (if u == 1 then place else None)) one is in
      let wrong : ◌≡◌ {A = Option P} None (Some picture) = sym none ∙ (at_one ∙ some) in
      cc
