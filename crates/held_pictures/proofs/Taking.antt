-- Units that come, counted by their keys.
use Rattle.std.proofs.Common.{◌≡◌, refl, ap, sym, subst, ◌∙◌, ℕ, zero, suc, ◌+◌, ◌<◌, ◌≤◌, Bool, true, false, ◌==◌, List, length, get_or, take, Option, None, Some, if◌then◌else◌, arith}
use Rattle.std.specs.Prelude.{Contains}
use Rattle.std.specs.Map.{lookup}
use Rattle.std.proofs.lemmas.List.Sums.{sum_by_more, sum_by-le}
use Rattle.std.proofs.lemmas.List.Elements.{Contains-get_or}
use Rattle.held_pictures.specs.declared.key_slots.slots.Slot.{Slot}
use Rattle.held_pictures.specs.Counting.{once_at, times}
use Rattle.held_pictures.specs.KeySlots.{AreSame, IsTakenUp, slot_at, uses_at, place_at, kept_or}
use Rattle.held_pictures.proofs.Slots.{place_used, place_unused}

-- one key more
pub times_more : (keys : List (Option ℕ)) (i number : ℕ) (key : Option ℕ) → i < length keys → key ≡ get_or keys i key
    → times number (take (i + 1) keys) ≡ times number (take i keys) + once_at number key
times_more keys i number key within is =
    sum_by_more (once_at number) keys i key within
    ∙ ap (λ (k : Option ℕ). times number (take i keys) + once_at number k) (sym is)

at_most_one : (b : Bool) → (if b then 1 else 0) ≤ 1
at_most_one true = omega arith
at_most_one false = omega arith

once_at_most : (number : ℕ) (key : Option ℕ) → once_at number key ≤ 1
once_at_most number None = omega arith
once_at_most number (Some key) = at_most_one (key == number)

-- a key stands no more often than there are entries
pub times_at_most : (number : ℕ) (keys : List (Option ℕ)) → times number keys ≤ length keys
times_at_most number keys =
    omega (arith, sum_by-le (once_at number) 1 keys (λ k d within. once_at_most number (get_or keys k d)))

-- the item of a list is in it
pub item_in : {X : Type 0} (xs : List X) (i : ℕ) (x y : X) → i < length xs → x ≡ get_or xs i x → x ≡ y → Contains xs y
item_in xs i x y within is same =
    subst (λ z. Contains xs z) (sym is ∙ same) (Contains-get_or xs i x within)

module _ {P : Type 0} where
  -- slots that stay the same twice
  pub same_twice : (old mid new : List (Slot P)) → AreSame old mid → AreSame mid new → AreSame old new
  same_twice old mid new first second = record {
    slots = λ number. second.slots number ∙ first.slots number;
    held = second.held ∙ first.held;
    pictures = second.pictures ∙ first.pictures;
  }

  kept_some : (place : Option (Option P)) (picture cached : Option P) → place ≡ Some picture → Some (kept_or place cached) ≡ place
  kept_some None picture cached is = absurd cc
  kept_some (Some other) picture cached is = refl

  -- none comes
  pub none_up : (key_slots : List (Slot P)) (cached : List (ℕ × P)) (number : ℕ) → IsTakenUp key_slots cached 0 key_slots number
  none_up key_slots cached number = record {
    uses = omega arith;
    place = λ used.
        sym (kept_some (place_at key_slots number) (slot_at key_slots number).picture (lookup (λ other. number == other) cached)
        (place_used (slot_at key_slots number) used));
  }

  -- some come, and then others; what is cached under the key stays as long as none of it comes
  module _ (old mid new : List (Slot P)) (cached left : List (ℕ × P)) (more others number : ℕ)
      (first : IsTakenUp old cached more mid number) (second : IsTakenUp mid left others new number)
      (stays : more ≡ 0 → lookup (λ other. number == other) left ≡ lookup (λ other. number == other) cached) where
    abbrev found : Option P
    found = lookup (λ other. number == other) cached

    abbrev found_then : Option P
    found_then = lookup (λ other. number == other) left

    by_mid : (uses : ℕ) → uses_at mid number ≡ uses → 0 < uses_at new number
        → place_at new number ≡ Some (kept_or (place_at old number) found)
    by_mid zero is used =
        let before : place_at old number ≡ None = place_unused (slot_at old number) (omega (arith, is, first.uses)) in
        let between : place_at mid number ≡ None = place_unused (slot_at mid number) is in
        second.place used
        ∙ (ap (λ (picture : Option P). Some (kept_or (place_at mid number) picture)) (stays (omega (arith, is, first.uses)))
        ∙ ap (λ (place : Option (Option P)). Some (kept_or place found)) (between ∙ sym before))
    by_mid (suc uses) is used =
        let some : 0 < uses_at mid number = omega (arith, is) in
        second.place used
        ∙ kept_some (place_at mid number) (slot_at mid number).picture found_then (place_used (slot_at mid number) some)
        ∙ first.place some

    pub up_twice : IsTakenUp old cached (more + others) new number
    up_twice = record {
      uses = omega (arith, first.uses, second.uses);
      place = λ used. by_mid (uses_at mid number) refl used;
    }
