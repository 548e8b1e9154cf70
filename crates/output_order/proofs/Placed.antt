-- The positions are filled in, key by key in output order.
use Rattle.std.proofs.Common.{◌≡◌, ℕ, ◌+◌, ◌<◌, ◌≤◌, ◌≢◌, ◌==◌, ◌||◌, ⊎_elim, Bool, true, false, cond, Option, Some, None, option_map, List, length, take, set, get_or, All, IsPermutation, refl, sym, ap, subst, ◌∙◌, arith}
use Rattle.std.proofs.Math.Bool.{or-true, or-false}
use Rattle.std.proofs.lemmas.Bool.{cases_Bool}
use Rattle.std.proofs.lemmas.Bool.Decides.{nat_tests}
use Rattle.std.proofs.lemmas.Cmp.{nat_eq_equiv}
use Rattle.std.proofs.lemmas.List.{length-set, get_or-set_same, get_or-set_other, take_all}
use Rattle.std.proofs.lemmas.List.Folds.{list_any_more}
use Rattle.std.proofs.lemmas.List.FromFn.{fill_by_all}
use Rattle.std.proofs.lemmas.List.Sorted.{All-permutation, list_any-IsPermutation}
use Rattle.std.proofs.lemmas.Map.Keys.{IsDistinct-IsPermutation}
use Rattle.std.specs.List.{list_any, count_by, IsDistinct}
use Rattle.std.specs.List.Sorted.{IsSortedBy}
use Rattle.unit_outcomes.specs.declared.outcome.Outcome.{Outcome}
use Rattle.output_order.specs.declared.positions_by_key.Key.{Key}
use Rattle.output_order.specs.OutputOrder.{key_at, keys, is_earlier, position_at, positions_of}
use Rattle.output_order.proofs.Ranks.{has_same_place, position_in_order}
use Rattle.output_order.proofs.KeyPlaces.{IsKeyOf, keys_known, keys_distinct, keys_there}

abbrev position_among : List Outcome → Key → ℕ
position_among outcomes key = count_by (λ other. is_earlier other key) (keys outcomes)

-- the keys of the valid units in output order
pub record AreInOrder (outcomes : List Outcome) (sorted : List Key) : Type 0 where
  pub permutation : IsPermutation (keys outcomes) sorted
  pub ascending : IsSortedBy is_earlier sorted

-- the places of the first keys have their positions, and the others none yet
pub record ArePlaced (outcomes : List Outcome) (sorted : List Key) (count : ℕ) (found : List (Option ℕ)) : Type 0 where
  pub length_is : length found ≡ length outcomes
  pub found_is : (place : ℕ) → place < length outcomes
      → get_or found place None ≡ cond (list_any (λ key. key.place == place) (take count sorted)) (position_at outcomes place) None

neither : (b : Bool) (position : Option ℕ) → position ≡ None → cond b position None ≡ position
neither true position none = refl
neither false position none = sym none

module _ (outcomes : List Outcome) (sorted : List Key) (order : AreInOrder outcomes sorted) where
  known : All (IsKeyOf outcomes) sorted
  known = All-permutation (IsKeyOf outcomes) (keys outcomes) sorted order.permutation (keys_known outcomes)

  apart : IsDistinct has_same_place sorted
  apart = IsDistinct-IsPermutation has_same_place (λ one other. nat_eq_equiv.symm one.place other.place)
      (keys outcomes) sorted order.permutation (keys_distinct outcomes)

  place_within : (at : ℕ) (d : Key) → at < length sorted → (get_or sorted at d).place < length outcomes
  place_within at d here = (known at d here).0

  position_is : (at : ℕ) (d : Key) → at < length sorted → position_at outcomes (get_or sorted at d).place ≡ Some at
  position_is at d here = ap (option_map (position_among outcomes)) (known at d here).1
      ∙ ap Some (position_in_order (keys outcomes) sorted order.permutation order.ascending apart at d here)

  -- one key more
  module _ (count : ℕ) (d : Key) (found : List (Option ℕ)) (placed : ArePlaced outcomes sorted count found) (here : count < length sorted) where
    abbrev key : Key
    key = get_or sorted count d

    abbrev shown_at : ℕ → ℕ → Bool
    shown_at count place = list_any (λ one. one.place == place) (take count sorted)

    shown_more : (place : ℕ) (b : Bool) → (key.place == place) ≡ b → shown_at (count + 1) place ≡ (shown_at count place || b)
    shown_more place b is = list_any_more (λ one. one.place == place) sorted count d here ∙ ap (λ b. shown_at count place || b) is

    pub place_found : (spare : ℕ) → spare ≡ length found → key.place < spare
    place_found spare is = omega (arith, placed.length_is, place_within count d here)

    at_key : get_or (set found key.place (Some count)) key.place None ≡ position_at outcomes key.place
    at_key = get_or-set_same found key.place (Some count) None (place_found (length found) refl) ∙ sym (position_is count d here)

    found_more : (place : ℕ) → place < length outcomes
        → get_or (set found key.place (Some count)) place None ≡ cond (shown_at (count + 1) place) (position_at outcomes place) None
    found_more place below = ⊎_elim
        (λ is. let same_place : key.place ≡ place = grind (arith, nat_tests) in
        subst (λ at. get_or (set found key.place (Some count)) at None ≡ position_at outcomes at) same_place at_key
        ∙ ap (λ b. cond b (position_at outcomes place) None) (sym (shown_more place true is ∙ or-true (shown_at count place))))
        (λ is. let other : place ≢ key.place = grind (arith, nat_tests) in
        get_or-set_other found key.place place (Some count) None other ∙ placed.found_is place below
        ∙ ap (λ b. cond b (position_at outcomes place) None) (sym (shown_more place false is ∙ or-false (shown_at count place))))
        (cases_Bool (key.place == place))

    pub ArePlaced-more : ArePlaced outcomes sorted (count + 1) (set found key.place (Some count))
    ArePlaced-more = record { length_is = length-set found key.place (Some count) ∙ placed.length_is; found_is = found_more }

  -- all of them
  pub positions_are : (count : ℕ) (found : List (Option ℕ)) → ArePlaced outcomes sorted count found → length sorted ≤ count → found ≡ positions_of outcomes
  positions_are count found placed all = fill_by_all (position_at outcomes) found (length outcomes) None placed.length_is (λ place within.
      placed.found_is place within
      ∙ ap (λ keys. cond (list_any (λ key. key.place == place) keys) (position_at outcomes place) None) (take_all count sorted all)
      ∙ settled place within (key_at outcomes place) refl)
    where
      settled : (place : ℕ) → place < length outcomes → (key : Option Key) → key_at outcomes place ≡ key
          → cond (list_any (λ one. one.place == place) sorted) (position_at outcomes place) None ≡ position_at outcomes place
      settled place within None is = neither (list_any (λ one. one.place == place) sorted) (position_at outcomes place) (ap (option_map (position_among outcomes)) is)
      settled place within (Some key) is =
          let moved = list_any-IsPermutation (λ one. one.place == place) (keys outcomes) sorted order.permutation in
          ap (λ b. cond b (position_at outcomes place) None) (sym moved ∙ keys_there outcomes place key within is)
