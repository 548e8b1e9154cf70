-- No key in use is cached, and so it stays where units come.
use Rattle.std.proofs.Common.{◌≡◌, refl, sym, subst, ◌∙◌, ℕ, zero, suc, ◌<◌, ◌==◌, List, ◌++◌, length, Option, None, Some, arith}
use Rattle.std.specs.Prelude.{Contains, IsPermutation, slice_set}
use Rattle.std.specs.Option.{option_to_list}
use Rattle.std.specs.Map.{keys_of, lookup, values_of}
use Rattle.std.proofs.lemmas.List.Sorted.{IsPermutation-refl}
use Rattle.held_pictures.specs.declared.key_slots.slots.Slot.{Slot}
use Rattle.held_pictures.specs.Accounts.{AreApart, pictures_kept}
use Rattle.held_pictures.specs.Counting.{times}
use Rattle.held_pictures.specs.Left.{IsLeft}
use Rattle.held_pictures.specs.KeySlots.{IsTakenUp, pictures_held, slot_at, taken_up, uses_at}
use Rattle.held_pictures.proofs.Bags.{comes, first_up, more_up}
use Rattle.held_pictures.proofs.Caches.{none_found}
use Rattle.held_pictures.proofs.Counts.{some_counted}
use Rattle.held_pictures.proofs.Going.{left_stays}
use Rattle.held_pictures.proofs.Members.{left_among}

module _ {P : Type 0} where
  -- the keys that came left the cache
  module _ (old new : List (Slot P)) (cached left : List (ℕ × P)) (keys : List (Option ℕ)) (apart : AreApart old cached)
      (up : (number : ℕ) → IsTakenUp old cached (times number keys) new number)
      (leaves : IsLeft (λ number. Contains keys (Some number)) (keys_of cached) (keys_of left)) where
    apart_by : (number n : ℕ) → times number keys ≡ n → 0 < uses_at new number → Contains (keys_of left) number → ⊥
    apart_by number zero is used among =
        apart number (omega (arith, is, used, (up number).uses))
        (left_among (λ n. Contains keys (Some n)) (keys_of cached) (keys_of left) leaves number among)
    apart_by number (suc n) is used among =
        left_stays (λ n. Contains keys (Some n)) (keys_of cached) (keys_of left) leaves number among
        (some_counted number keys (omega (arith, is)))

    pub apart_after : AreApart new left
    apart_after number used among = apart_by number (times number keys) refl used among

  -- a picture goes from the cache to a key that comes into use
  module _ (old new : List (Slot P)) (was now : List (ℕ × P)) (key : ℕ) (cached : Option P) (within : key < length old)
      (found : cached ≡ lookup (λ other. key == other) was) (leaves : IsPermutation (values_of was) (values_of now ++ option_to_list cached))
      (is : new ≡ slice_set old key (taken_up (slot_at old key) cached)) where
    taken_by : (uses : ℕ) → uses_at old key ≡ uses → AreApart old was → IsPermutation (pictures_kept old was) (pictures_kept new now)
    taken_by zero none apart =
        comes (pictures_held old) (pictures_held new) (values_of was) (values_of now) (option_to_list cached) leaves
        (first_up old new key cached within none is)
    taken_by (suc uses) some apart =
        let used : 0 < uses_at old key = omega (arith, some) in
        let none : cached ≡ None = found ∙ none_found key was (apart key used) in
        let same : pictures_held new ≡ pictures_held old = more_up old new key cached used is in
        comes (pictures_held old) (pictures_held new) (values_of was) (values_of now) (option_to_list None)
        (subst (λ (picture : Option P). IsPermutation (values_of was) (values_of now ++ option_to_list picture)) none leaves)
        (subst (λ l. IsPermutation l (pictures_held old)) (sym same) (IsPermutation-refl (pictures_held old)))

    pub taken_accounts : AreApart old was → IsPermutation (pictures_kept old was) (pictures_kept new now)
    taken_accounts = taken_by (uses_at old key) refl
