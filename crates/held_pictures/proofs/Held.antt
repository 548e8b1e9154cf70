-- Which numbers have a picture that is held.
use Rattle.std.proofs.Common.{◌≡◌, refl, sym, subst, ℕ, zero, suc, ◌+◌, ◌<◌, true, false, IsTrue, List, [], ◌∷◌, Option, None, Some, ◌↔◌, inl, inr, arith}
use Rattle.std.specs.Prelude.{Contains}
use Rattle.std.specs.List.{cons_option}
use Rattle.held_pictures.specs.declared.key_slots.slots.Slot.{Slot}
use Rattle.held_pictures.specs.KeySlots.{is_awaited, is_held, place_of, place_at, number_held, held_from, numbers_held}
use Rattle.held_pictures.specs.Going.{AreAbove, AreRising}
use Rattle.held_pictures.proofs.Members.{here, there, nowhere, first_or_among}

not_true : false ≡ true → ⊥
not_true same = cc

module _ {P : Type 0} where
  -- a slot of these has the number, counted from one on, and a picture
  abbrev HasPicture : ℕ → List (Slot P) → ℕ → Type 0
  HasPicture from key_slots number =
      (k : ℕ) × (picture : P) × (number ≡ from + k) × (place_at key_slots k ≡ Some (Some picture))

  found_next : (from : ℕ) (slot : Slot P) (key_slots : List (Slot P)) (number : ℕ) → HasPicture (suc from) key_slots number
      → HasPicture from (slot ∷ key_slots) number
  found_next from slot key_slots number found = (suc found.0, found.1, omega (arith, found.2), found.3)

  found_by : (from : ℕ) (slot : Slot P) (key_slots : List (Slot P)) (number : ℕ) (place : Option (Option P)) → place_of slot ≡ place
      → (Contains (held_from (suc from) key_slots) number → HasPicture (suc from) key_slots number)
      → Contains (cons_option (number_held from place) (held_from (suc from) key_slots)) number
      → HasPicture from (slot ∷ key_slots) number
  found_by from slot key_slots number None place later is = found_next from slot key_slots number (later is)
  found_by from slot key_slots number (Some None) place later is = found_next from slot key_slots number (later is)
  found_by from slot key_slots number (Some (Some picture)) place later is =
      elim (first_or_among from number (held_from (suc from) key_slots) is) [
        | inl same ↦ (0, picture, omega (arith, same), place)
        | inr among ↦ found_next from slot key_slots number (later among)
      ]

  -- a number among those from one on is that of a slot with a picture
  found_from : (from : ℕ) (key_slots : List (Slot P)) (number : ℕ) → Contains (held_from from key_slots) number
      → HasPicture from key_slots number
  found_from from [] number is = absurd (nowhere number is)
  found_from from (slot ∷ key_slots) number is =
      found_by from slot key_slots number (place_of slot) refl (found_from (suc from) key_slots number) is

  -- a number whose picture is held
  pub held_found : (key_slots : List (Slot P)) (number : ℕ) → Contains (numbers_held key_slots) number
      → (picture : P) × (place_at key_slots number ≡ Some (Some picture))
  held_found key_slots number is =
      let found = found_from 0 key_slots number is in
      let same : found.0 ≡ number = omega (arith, found.2) in
      (found.1, subst (λ n. place_at key_slots n ≡ Some (Some found.1)) same found.3)

  in_rest : (from : ℕ) (place : Option (Option P)) (rest : List ℕ) (number : ℕ) → Contains rest number
      → Contains (cons_option (number_held from place) rest) number
  in_rest from None rest number is = is
  in_rest from (Some None) rest number is = is
  in_rest from (Some (Some picture)) rest number is = there from number rest is

  none_some : (picture : P) → ◌≡◌ {A = Option (Option P)} None (Some (Some picture)) → ⊥
  none_some picture same = cc

  empty_some : (picture : P) → ◌≡◌ {A = Option (Option P)} (Some None) (Some (Some picture)) → ⊥
  empty_some picture same = cc

  none_empty : ◌≡◌ {A = Option (Option P)} None (Some None) → ⊥
  none_empty same = cc

  -- what is told of a place: that a picture is held there
  pub held_told : (place : Option (Option P)) → IsTrue (is_held place) ↔ ((picture : P) × (place ≡ Some (Some picture)))
  held_told None = (λ yes. absurd (not_true yes), λ held. absurd (none_some held.0 held.1))
  held_told (Some None) = (λ yes. absurd (not_true yes), λ held. absurd (empty_some held.0 held.1))
  held_told (Some (Some picture)) = (λ yes. (picture, refl), λ held. refl)

  -- and that one is awaited
  pub awaited_told : (place : Option (Option P)) → IsTrue (is_awaited place) ↔ (place ≡ Some None)
  awaited_told None = (λ yes. absurd (not_true yes), λ is. absurd (none_empty is))
  awaited_told (Some None) = (λ yes. refl, λ is. refl)
  awaited_told (Some (Some picture)) = (λ yes. absurd (not_true yes), λ is. absurd (empty_some picture (sym is)))

  held_there : (from : ℕ) (key_slots : List (Slot P)) (k : ℕ) (picture : P) → place_at key_slots k ≡ Some (Some picture)
      → Contains (held_from from key_slots) (from + k)
  held_there from [] k picture is = absurd (none_some picture is)
  held_there from (slot ∷ key_slots) zero picture is =
      let same : from ≡ from + 0 = omega arith in
      subst (λ (place : Option (Option P)). Contains (cons_option (number_held from place) (held_from (suc from) key_slots)) (from + 0)) (sym is)
      (subst (λ n. Contains (from ∷ held_from (suc from) key_slots) n) same (here from (held_from (suc from) key_slots)))
  held_there from (slot ∷ key_slots) (suc k) picture is =
      let same : suc from + k ≡ from + suc k = omega arith in
      in_rest from (place_of slot) (held_from (suc from) key_slots) (from + suc k)
      (subst (Contains (held_from (suc from) key_slots)) same (held_there (suc from) key_slots k picture is))

  pub found_held : (key_slots : List (Slot P)) (number : ℕ) (picture : P) → place_at key_slots number ≡ Some (Some picture)
      → Contains (numbers_held key_slots) number
  found_held key_slots number picture is =
      let same : 0 + number ≡ number = omega arith in
      subst (Contains (numbers_held key_slots)) same (held_there 0 key_slots number picture is)

  above_by : (least from : ℕ) (rest : List ℕ) (place : Option (Option P)) → least < from → AreAbove from rest → AreAbove least rest
      → AreAbove least (cons_option (number_held from place) rest)
  above_by least from rest None less above lower = lower
  above_by least from rest (Some None) less above lower = lower
  above_by least from rest (Some (Some picture)) less above lower = (less, above)

  above_from : (least from : ℕ) (key_slots : List (Slot P)) → least < from → AreAbove least (held_from from key_slots)
  above_from least from [] less = tt
  above_from least from (slot ∷ key_slots) less =
      above_by least from (held_from (suc from) key_slots) (place_of slot) less (above_from from (suc from) key_slots (omega arith))
      (above_from least (suc from) key_slots (omega (arith, less)))

  rising_by : (from : ℕ) (rest : List ℕ) (place : Option (Option P)) → AreAbove from rest → AreRising rest
      → AreRising (cons_option (number_held from place) rest)
  rising_by from rest None above rising = rising
  rising_by from rest (Some None) above rising = rising
  rising_by from rest (Some (Some picture)) above rising = above

  rising_from : (from : ℕ) (key_slots : List (Slot P)) → AreRising (held_from from key_slots)
  rising_from from [] = tt
  rising_from from (slot ∷ key_slots) =
      rising_by from (held_from (suc from) key_slots) (place_of slot) (above_from from (suc from) key_slots (omega arith))
      (rising_from (suc from) key_slots)

  -- the numbers rise
  pub held_rising : (key_slots : List (Slot P)) → AreRising (numbers_held key_slots)
  held_rising key_slots = rising_from 0 key_slots
