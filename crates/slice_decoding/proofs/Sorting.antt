-- The one list of places with these members in this order.
use Rattle.std.proofs.Common.{◌≡◌, ℕ, zero, suc, ◌<◌, ◌⊎◌, inl, inr, ⊎_elim, Bool, true, false, List, [], ◌∷◌, Contains, refl, sym, ap, ◌∙◌, arith}
use Rattle.std.specs.declared.cmp.Ordering.{Ordering}
use Rattle.std.specs.declared.cmp.Ordering.TheVariants.{Less, Equal, Greater}
use Rattle.std.specs.Ordering.{is_lt, ordering_reverse}
use Rattle.std.specs.Cmp.{IsTotalOrder}
use Rattle.std.specs.List.{AllByRecursion}
use Rattle.std.specs.List.Sorted.{IsStrictlySortedBy}
use Rattle.std.proofs.lemmas.Bool.{false≢true, cases_Bool, cases_lt}
use Rattle.slice_decoding.specs.InitialLists.{inserted, sorted_below}

-- the place is one of them
abbrev pub Among : List ℕ → ℕ → Type 0
Among [] place = ⊥
Among (first ∷ places) place = (first ≡ place) ⊎ Among places place

pub Among-from_Contains : (places : List ℕ) (place : ℕ) → Contains places place → Among places place
Among-from_Contains [] place (zero, below, is) = absurd (omega arith)
Among-from_Contains [] place (suc k, below, is) = absurd (omega arith)
Among-from_Contains (first ∷ places) place (zero, below, is) = inl is
Among-from_Contains (first ∷ places) place (suc k, below, is) = inr (Among-from_Contains places place (k, omega arith, is))

pub Contains-from_Among : (places : List ℕ) (place : ℕ) → Among places place → Contains places place
Contains-from_Among [] place h = absurd h
Contains-from_Among (first ∷ places) place (inl is) = (0, omega arith, is)
Contains-from_Among (first ∷ places) place (inr h) =
    let rest = Contains-from_Among places place h in (suc rest.0, omega (arith, rest.1), rest.2)

AllByRecursion-among : (P : ℕ → Type 0) (places : List ℕ) (place : ℕ) → AllByRecursion P places → Among places place → P place
AllByRecursion-among P [] place all h = absurd h
AllByRecursion-among P (first ∷ places) place all (inl is) = rw is at all.0
AllByRecursion-among P (first ∷ places) place all (inr h) = AllByRecursion-among P places place all.1 h

AllByRecursion-from_among : (P : ℕ → Type 0) (places : List ℕ) → ((place : ℕ) → Among places place → P place) → AllByRecursion P places
AllByRecursion-from_among P [] each = tt
AllByRecursion-from_among P (first ∷ places) each = (each first (inl refl), AllByRecursion-from_among P places (λ place h. each place (inr h)))

Less-from_is_lt : (o : Ordering) → is_lt o ≡ true → o ≡ Less
Less-from_is_lt Less test = refl
Less-from_is_lt Equal test = absurd (false≢true test)
Less-from_is_lt Greater test = absurd (false≢true test)

module _ (cmp : ℕ → ℕ → Ordering) (total : IsTotalOrder cmp) where
  -- one place isn't before the other and after it
  not_both : (place other : ℕ) → cmp place other ≡ Less → cmp other place ≡ Less → ⊥
  not_both place other before after =
      let turned = total.antisymm place other in
      let back = ap ordering_reverse after in
      cc

  not_itself : (place : ℕ) → cmp place place ≡ Less → ⊥
  not_itself place before = not_both place place before before

  head_before : (first : ℕ) (places : List ℕ) (place : ℕ) → IsStrictlySortedBy cmp (first ∷ places) → Among places place → cmp first place ≡ Less
  unfolding IsStrictlySortedBy
  head_before first places place sorted h = AllByRecursion-among (λ other. cmp first other ≡ Less) places place sorted.0 h

  tail_sorted : (first : ℕ) (places : List ℕ) → IsStrictlySortedBy cmp (first ∷ places) → IsStrictlySortedBy cmp places
  unfolding IsStrictlySortedBy
  tail_sorted first places sorted = sorted.1

  cons_sorted : (first : ℕ) (places : List ℕ) → ((place : ℕ) → Among places place → cmp first place ≡ Less) → IsStrictlySortedBy cmp places → IsStrictlySortedBy cmp (first ∷ places)
  unfolding IsStrictlySortedBy
  cons_sorted first places before sorted = (AllByRecursion-from_among (λ other. cmp first other ≡ Less) places before, sorted)

  -- two lists in order with the same members begin with the same
  same_head : (first other : ℕ) (places others : List ℕ) → IsStrictlySortedBy cmp (first ∷ places) → IsStrictlySortedBy cmp (other ∷ others)
      → Among (other ∷ others) first → Among (first ∷ places) other → first ≡ other
  same_head first other places others sorted sorted' (inl is) there' = sym is
  same_head first other places others sorted sorted' (inr there) (inl is) = is
  same_head first other places others sorted sorted' (inr there) (inr there') =
      absurd (not_both first other (head_before first places other sorted there') (head_before other others first sorted' there))

  -- what one has after its first, the other has after the same
  in_tail : (first : ℕ) (places others : List ℕ) (place : ℕ) → IsStrictlySortedBy cmp (first ∷ places)
      → Among places place → Among (first ∷ others) place → Among others place
  in_tail first places others place sorted h (inl is) = absurd (not_itself first (rw (← is) at (head_before first places place sorted h)))
  in_tail first places others place sorted h (inr there) = there

  pub same_sorted : (places others : List ℕ) → IsStrictlySortedBy cmp places → IsStrictlySortedBy cmp others
      → ((place : ℕ) → Among places place → Among others place) → ((place : ℕ) → Among others place → Among places place)
      → places ≡ others
  same_sorted [] [] sorted sorted' to from = refl
  same_sorted [] (other ∷ others) sorted sorted' to from = absurd (from other (inl refl))
  same_sorted (first ∷ places) [] sorted sorted' to from = absurd (to first (inl refl))
  same_sorted (first ∷ places) (other ∷ others) sorted sorted' to from =
      let same = same_head first other places others sorted sorted' (to first (inl refl)) (from other (inl refl)) in
      let sorted_other = rw (← same) at sorted' in
      let rest = same_sorted places others (tail_sorted first places sorted) (tail_sorted other others sorted')
      (λ place h. in_tail first places others place sorted h (rw (← same) at (to place (inr h))))
      (λ place h. in_tail first others places place sorted_other h (from place (inr h))) in
      cc

  module _ (exact : (place other : ℕ) → cmp place other ≡ Equal → place ≡ other) where
    -- where one place isn't before another, that one is before it
    pub turned : (place other : ℕ) → is_lt (cmp place other) ≡ false → (place ≡ other → ⊥) → cmp other place ≡ Less
    turned place other after apart = by (cmp place other) refl after
      where
        by : (o : Ordering) → cmp place other ≡ o → is_lt o ≡ false → cmp other place ≡ Less
        by Less is test = absurd (false≢true (sym test))
        by Equal is test = absurd (apart (exact place other is))
        by Greater is test = total.antisymm other place ∙ ap ordering_reverse is

    abbrev precedes : ℕ → ℕ → Bool
    precedes place other = is_lt (cmp place other)

    -- the members of a list that a place was put into
    Among-inserted : (place : ℕ) (places : List ℕ) (other : ℕ) → Among (inserted precedes place places) other → (place ≡ other) ⊎ Among places other
    Among-inserted place [] other h = h
    Among-inserted place (first ∷ places) other h = ⊎_elim
        (λ before. rw before at h)
        (λ after. elim (rw after at h) [
          | inl is ↦ inr (inl is)
          | inr there ↦ elim (Among-inserted place places other there) [ inl is ↦ inl is | inr rest ↦ inr (inr rest) ]
        ])
        (cases_Bool (precedes place first))

    inserted_among : (place : ℕ) (places : List ℕ) (other : ℕ) → (place ≡ other) ⊎ Among places other → Among (inserted precedes place places) other
    inserted_among place [] other h = h
    inserted_among place (first ∷ places) other h = ⊎_elim
        (λ before. rw before h)
        (λ after. rw after (elim h [
          | inl is ↦ inr (inserted_among place places other (inl is))
          | inr (inl is) ↦ inl is
          | inr (inr there) ↦ inr (inserted_among place places other (inr there))
        ]))
        (cases_Bool (precedes place first))

    sorted-inserted : (place : ℕ) (places : List ℕ) → IsStrictlySortedBy cmp places → (Among places place → ⊥) → IsStrictlySortedBy cmp (inserted precedes place places)
    sorted-inserted place [] sorted new = cons_sorted place [] (λ other h. absurd h) sorted
    sorted-inserted place (first ∷ places) sorted new = ⊎_elim
        (λ before. let less = Less-from_is_lt (cmp place first) before in
        rw before (cons_sorted place (first ∷ places) (λ other h. elim h [
          | inl is ↦ rw is at less
          | inr there ↦ total.trans place first other less (head_before first places other sorted there)
        ]) sorted))
        (λ after. let later = turned place first after (λ is. new (inl (sym is))) in
        rw after (cons_sorted first (inserted precedes place places) (λ other h. elim (Among-inserted place places other h) [
          | inl is ↦ rw is at later
          | inr there ↦ head_before first places other sorted there
        ]) (sorted-inserted place places (tail_sorted first places sorted) (λ there. new (inr there)))))
        (cases_Bool (precedes place first))

    pub Among-sorted_below : (count place : ℕ) → Among (sorted_below precedes count) place → place < count
    Among-sorted_below zero place h = absurd h
    Among-sorted_below (suc count) place h = elim (Among-inserted count (sorted_below precedes count) place h) [
      | inl is ↦ omega arith
      | inr there ↦ let below = Among-sorted_below count place there in omega arith
    ]

    pub sorted_below_among : (count place : ℕ) → place < count → Among (sorted_below precedes count) place
    sorted_below_among zero place below = absurd (omega arith)
    sorted_below_among (suc count) place below = inserted_among count (sorted_below precedes count) place (⊎_elim
        (λ earlier. inr (sorted_below_among count place earlier))
        (λ last. inl (omega arith))
        (cases_lt place count))

    pub sorted-sorted_below : (count : ℕ) → IsStrictlySortedBy cmp (sorted_below precedes count)
    unfolding IsStrictlySortedBy
    sorted-sorted_below zero = tt
    sorted-sorted_below (suc count) = sorted-inserted count (sorted_below precedes count) (sorted-sorted_below count)
        (λ there. let below = Among-sorted_below count count there in absurd (omega arith))
