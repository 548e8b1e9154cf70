-- Keys in use, counted anew.
use Rattle.std.proofs.Common.{◌≡◌, refl, ap, sym, subst, ◌∙◌, ℕ, zero, suc, ◌+◌, ◌<◌, ◌≤◌, List, ◌++◌, take, drop, ◌-◌, append_assoc, take-append-drop, Option, None, Some, IsSome, inl, inr, ◌⊎◌, arith}
use Rattle.std.specs.Prelude.{Contains, ◌==◌}
use Rattle.std.specs.Option.{is_some}
use Rattle.std.specs.Map.{keys_of as numbers_of, lookup}
use Rattle.std.proofs.lemmas.List.{drop-drop}
use Rattle.std.proofs.lemmas.List.Sums.{sum_by-append}
use Rattle.std.proofs.lemmas.List.Elements.{Contains-append_left, Contains-append_right}
use Rattle.std.proofs.lemmas.Map.Views.{exact_unsigned_eq, Contains-from_lookup}
use Rattle.held_pictures.specs.Left.{IsLeft, ArePut}
use Rattle.held_pictures.specs.Counting.{once_at, times, times_in}
use Rattle.held_pictures.specs.KeySlots.{AreSame, IsTakenUp, slot_at, place_of, place_at, uses_at, numbers_held, kept_or}
use Rattle.held_pictures.specs.Going.{IsHeldBefore}
use Rattle.held_pictures.proofs.Members.{among_map, among_source}
use Rattle.held_pictures.proofs.Slots.{place_used, place_unused, used_some}
use Rattle.held_pictures.proofs.Going.{left_among_same, left_stays}
use Rattle.held_pictures.proofs.Held.{held_found, found_held, held_rising}
use Rattle.held_pictures.proofs.Counts.{counted_some, some_counted, counted_in}
use Rattle.picture_store.specs.KeySlots.{KeySlotsValue, carried, held_or}
use Rattle.picture_store.specs.Recounts.{IsCountable, IsRecounted}

times_all : (number : ℕ) (front goes back : List (Option ℕ))
    → times number (front ++ goes ++ back) ≡ times number front + times number goes + times number back
times_all number front goes back =
    sum_by-append (once_at number) (front ++ goes) back
    ∙ ap (λ n. n + times number back) (sum_by-append (once_at number) front goes)

-- a list in three parts
pub in_three : {X : Type 0} (from to : ℕ) (xs : List X) → from ≤ to
    → xs ≡ take from xs ++ take (to - from) (drop from xs) ++ drop to xs
in_three from to xs ordered =
    let last : drop (to - from) (drop from xs) ≡ drop to xs =
    drop-drop (to - from) from xs ∙ ap (λ n. drop n xs) (omega (arith, ordered)) in
    sym (take-append-drop from xs)
    ∙ (ap (λ rest. take from xs ++ rest) (sym (take-append-drop (to - from) (drop from xs)))
    ∙ (ap (λ rest. take from xs ++ (take (to - from) (drop from xs) ++ rest)) last
    ∙ sym (append_assoc (take from xs) (take (to - from) (drop from xs)) (drop to xs))))

kept_held : {P : Type 0} (place : Option (Option P)) (numbers : Option P) → (IsSome place → numbers ≡ None) → kept_or place numbers ≡ held_or place numbers
kept_held None numbers none = refl
kept_held (Some None) numbers none = sym (none refl)
kept_held (Some (Some picture)) numbers none = refl

not_found : {X : Type 0} (o : Option X) → ((x : X) → o ≡ Some x → ⊥) → o ≡ None
not_found None none = refl
not_found (Some x) none = absurd (none x refl)

module _ {P : Type 0} (key_slots taken : KeySlotsValue P) (cached : List (ℕ × P)) (front goes back later : List (Option ℕ)) (leaving : List ℕ)
    (countable : IsCountable key_slots cached front goes back leaving)
    (up : (number : ℕ) → IsTakenUp key_slots cached (times number later) taken number) where
  used_before : (number : ℕ) → 0 < times number goes → 0 < uses_at key_slots number
  used_before number some = omega (arith, some, countable.counted number, times_all number front goes back)

  cached_none : (number : ℕ) → IsSome (place_at key_slots number) → lookup (λ other. number == other) cached ≡ None
  cached_none number some =
      not_found (lookup (λ other. number == other) cached)
      (λ picture is.
      countable.apart number (used_some key_slots number some)
      (among_map (λ (pair : ℕ × P). pair.0) cached (number, picture)
      (Contains-from_lookup exact_unsigned_eq number picture cached is)))

  -- the place of a key in use, once those that come are counted
  taken_place : (number : ℕ) → 0 < uses_at key_slots number → place_at taken number ≡ Some (slot_at key_slots number).picture
  taken_place number used =
      (up number).place (omega (arith, used, (up number).uses))
      ∙ ap (λ (place : Option (Option P)). Some (kept_or place (lookup (λ other. number == other) cached)))
      (place_used (slot_at key_slots number) used)

  pub held_before : IsHeldBefore (numbers_held key_slots) leaving taken
  held_before = record {
    rising = held_rising key_slots;
    pictured = λ number is.
        let held = held_found key_slots number is in
        let used = used_some key_slots number (ap is_some held.1) in (
          held.0,
          taken_place number used ∙ sym (place_used (slot_at key_slots number) used) ∙ held.1,
        );
    among = λ number picture leaves is.
        let used : 0 < uses_at key_slots number =
        used_before number (omega (arith, counted_in number leaving leaves, countable.leave number)) in
        found_held key_slots number picture
        (place_used (slot_at key_slots number) used ∙ (sym (taken_place number used) ∙ is));
  }

  module _ (left : List (ℕ × P)) (leaves : IsLeft (λ number. Contains later (Some number)) (numbers_of cached) (numbers_of left))
      (left_pairs : (number : ℕ) (picture : P) → Contains left (number, picture) → Contains cached (number, picture))
      (new : KeySlotsValue P) (uses : (number : ℕ) → uses_at new number + times_in number leaving ≡ uses_at taken number)
      (stay : (number : ℕ) → 0 < uses_at new number → place_at new number ≡ place_at taken number)
      (capacity : ℕ) (more : List (ℕ × P)) (gone : List ℕ)
      (go : IsLeft (λ number. IsSome (place_at new number)) (numbers_held key_slots) gone)
      (lost : ℕ) (puts : ArePut capacity gone (numbers_of left) (numbers_of more) lost)
      (those : (number : ℕ) (picture : P) → Contains more (number, picture)
      → Contains left (number, picture) ⊎ ((place_at taken number ≡ Some (Some picture)) × (uses_at new number ≡ 0))) where
    counted : (number : ℕ) → uses_at new number ≡ times number (front ++ later ++ back)
    counted number =
        omega (
          arith,
          uses number,
          (up number).uses,
          countable.counted number,
          countable.leave number,
          times_all number front goes back,
          times_all number front later back,
        )

    is_used : (number : ℕ) → Contains (front ++ later ++ back) (Some number) → 0 < uses_at new number
    is_used number is = omega (arith, counted number, counted_some number (front ++ later ++ back) is)

    is_named : (number : ℕ) → 0 < uses_at new number → Contains (front ++ later ++ back) (Some number)
    is_named number used = some_counted number (front ++ later ++ back) (omega (arith, counted number, used))

    placed_by : (number n : ℕ) → uses_at new number ≡ n
        → (Contains (front ++ later ++ back) (Some number) × (place_at new number ≡ Some (carried key_slots cached number)))
        ⊎ ((Contains (front ++ later ++ back) (Some number) → ⊥) × (place_at new number ≡ None))
    placed_by number zero is =
        inr (λ named. absurd (omega (arith, is, is_used number named)), place_unused (slot_at new number) is)
    placed_by number (suc n) is =
        let used : 0 < uses_at new number = omega (arith, is) in
        inl (
          is_named number used,
          stay number used
              ∙ ((up number).place (omega (arith, used, uses number))
              ∙ ap (λ (picture : Option P). Some picture)
              (kept_held (place_at key_slots number) (lookup (λ other. number == other) cached) (cached_none number))),
        )

    leaves_all : IsLeft (λ number. Contains (front ++ later ++ back) (Some number)) (numbers_of cached) (numbers_of left)
    leaves_all =
        left_among_same (λ number. Contains later (Some number)) (λ number. Contains (front ++ later ++ back) (Some number))
        (numbers_of cached) (numbers_of left)
        (λ number among is. Contains-append_left (front ++ later) back (Some number) (Contains-append_right front later (Some number) is))
        (λ number among is.
        let unused : (0 < uses_at key_slots number) → ⊥ = λ used. countable.apart number used among in
        some_counted number later
        (omega (
          arith,
          counted_some number (front ++ later ++ back) is,
          times_all number front later back,
          times_all number front goes back,
          countable.counted number,
          unused,
        ))) leaves

    apart_pair : (number : ℕ) → 0 < uses_at new number → (picture : P) → Contains more (number, picture) → ⊥
    apart_pair number used picture is =
        elim (those number picture is) [
          | inl before ↦
              left_stays (λ n. Contains (front ++ later ++ back) (Some n)) (numbers_of cached) (numbers_of left) leaves_all number
              (among_map (λ (pair : ℕ × P). pair.0) left (number, picture) before) (is_named number used)
          | inr gone_now ↦ absurd (omega (arith, used, gone_now.1))
        ]

    apart : (number : ℕ) → 0 < uses_at new number → Contains (numbers_of more) number → ⊥
    apart number used is =
        let pair : (pair : ℕ × P) × Contains more pair × (pair.0 ≡ number) =
        among_source (λ (pair : ℕ × P). pair.0) more number is in
        apart_pair number used pair.0.1
        (subst (λ n. Contains more (n, pair.0.1)) pair.2 pair.1)

    was_held : (number : ℕ) (picture : P) → place_at taken number ≡ Some (Some picture) → uses_at new number ≡ 0
        → place_at key_slots number ≡ Some (Some picture)
    was_held number picture is none =
        let taken_used : 0 < uses_at taken number = used_some taken number (ap is_some is) in
        let used : 0 < uses_at key_slots number =
        used_before number (omega (arith, taken_used, uses number, none, countable.leave number)) in
        place_used (slot_at key_slots number) used ∙ (sym (taken_place number used) ∙ is)

    pub recounted : IsRecounted key_slots cached capacity (front ++ later ++ back) new more lost
    recounted = record {
      counted = counted;
      apart = apart;
      placed = λ number. placed_by number (uses_at new number) refl;
      left = left;
      leaves = leaves_all;
      left_pairs = left_pairs;
      gone = gone;
      go = go;
      puts = puts;
      put_pairs = λ number picture is.
          elim (those number picture is) [
            | inl before ↦ inl before
            | inr gone_now ↦ inr (was_held number picture gone_now.0 gone_now.1)
          ];
    }

-- the same of places whose slots are the same
pub recounted_same : {P : Type 0} (old grown : KeySlotsValue P) (cached : List (ℕ × P)) (capacity : ℕ) (numbers : List (Option ℕ)) (new : KeySlotsValue P)
    (more : List (ℕ × P)) (lost : ℕ) → AreSame old grown → IsRecounted grown cached capacity numbers new more lost
    → IsRecounted old cached capacity numbers new more lost
recounted_same old grown cached capacity numbers new more lost same is = record {
  counted = is.counted;
  apart = is.apart;
  placed = λ number.
      elim (is.placed number) [
        | inl used ↦
            inl (
              used.0,
              used.1
                  ∙ ap (λ place. Some (held_or place (lookup (λ other. number == other) cached)))
                  (ap place_of (same.slots number)),
            )
        | inr unused ↦ inr unused
      ];
  left = is.left;
  leaves = is.leaves;
  left_pairs = is.left_pairs;
  gone = is.gone;
  go = subst (λ held. IsLeft (λ number. IsSome (place_at new number)) held is.gone) same.held is.go;
  puts = is.puts;
  put_pairs = λ number picture among.
      elim (is.put_pairs number picture among) [
        | inl before ↦ inl before
        | inr held ↦ inr (ap place_of (sym (same.slots number)) ∙ held)
      ];
}

-- the same slots count what is found in its parts
pub countable : {P : Type 0} (key_slots grown : KeySlotsValue P) (cached : List (ℕ × P)) (numbers : List (Option ℕ)) (from to : ℕ) (leaving : List ℕ)
    → from ≤ to → AreSame key_slots grown → ((number : ℕ) → uses_at key_slots number ≡ times number numbers)
    → ((number : ℕ) → 0 < uses_at key_slots number → Contains (numbers_of cached) number → ⊥)
    → ((number : ℕ) → times_in number leaving ≡ times number (take (to - from) (drop from numbers)))
    → IsCountable grown cached (take from numbers) (take (to - from) (drop from numbers)) (drop to numbers) leaving
countable key_slots grown cached numbers from to leaving ordered same counted apart leave = record {
  counted = λ number.
      ap (λ slot. slot.uses) (same.slots number)
      ∙ (counted number ∙ ap (times number) (in_three from to numbers ordered));
  apart = λ number used. apart number (subst (λ n. 0 < n) (ap (λ slot. slot.uses) (same.slots number)) used);
  leave = leave;
}
