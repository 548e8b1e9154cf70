-- The least range, with units more.
use Rattle.std.proofs.Common.{◌≡◌, refl, ap, sym, ◌∙◌, subst, ℕ, zero, suc, ◌+◌, ◌-◌, ◌<◌, ◌≤◌, ◌⊎◌, inl, inr, false, eqb, List, [], ◌∷◌, ◌++◌, length, Some, arith, take, append_assoc}
use Rattle.std.specs.Prelude.{Contains, slice_get}
use Rattle.std.proofs.lemmas.Bool.{cases_lt}
use Rattle.std.proofs.lemmas.List.{length-append, length-take-le, take_more}
use Rattle.std.proofs.lemmas.Option.{get_or_from_slice_get, same_Some, slice_get_within}
use Rattle.picture_keys.specs.declared.changed_units.changed.Changed.{Changed}
use Rattle.picture_keys.specs.Units.{ComparedUnit}
use Rattle.picture_keys.specs.Ranges.{IsChanged, IsChangedAt, IsLeast, no_units, with_unit}
use Rattle.picture_keys.proofs.Lists.{at_front, at_behind, contained}

-- a range of units goes up to one that stands behind it
pub with_some : (from count at : ℕ) → 0 < count
    → with_unit (record { from = from; count = count }) at ≡ record { from = from; count = at - from + 1 }
with_some from count at some = let no : eqb count 0 ≡ false = grind (arith, some) in rw no refl

-- and ends with it
pub behind_more : (from count at index : ℕ) → from + count ≤ at + index
    → (with_unit (record { from = from; count = count }) (at + index)).from
    + (with_unit (record { from = from; count = count }) (at + index)).count ≤ at + (index + 1)
behind_more from zero at index behind = omega (arith, behind)
behind_more from (suc count) at index behind =
    rw (with_some from (suc count) (at + index) (omega arith)) (omega (arith, behind))

module _ {K : Type 0} (before : List (ComparedUnit K)) where
  within : (after : List (ComparedUnit K)) (at : ℕ) → IsChangedAt before after at → at < length after
  within after at is = slice_get_within after at is.0 is.1

  -- what changed among units changed among them and more
  changed_front : (after more : List (ComparedUnit K)) (at : ℕ) → IsChangedAt before after at → IsChangedAt before (after ++ more) at
  changed_front after more at is = (is.0, at_front after more at (within after at is) ∙ is.1, is.2)

  front_changed : (after more : List (ComparedUnit K)) (at : ℕ) → at < length after → IsChangedAt before (after ++ more) at
      → IsChangedAt before after at
  front_changed after more at inside is = (is.0, sym (at_front after more at inside) ∙ is.1, is.2)

  -- the unit behind them is the last
  last_unit : (after : List (ComparedUnit K)) (unit : ComparedUnit K) → slice_get (after ++ unit ∷ []) (length after) ≡ Some unit
  last_unit after unit =
      let end : length after ≡ length after + 0 = omega arith in
      ap (slice_get (after ++ unit ∷ [])) end ∙ at_behind after (unit ∷ []) 0

  changed_last : (after : List (ComparedUnit K)) (unit : ComparedUnit K) → IsChangedAt before (after ++ unit ∷ []) (length after)
      → IsChanged before unit
  changed_last after unit is =
      subst (IsChanged before) (same_Some is.0 unit (sym is.1 ∙ last_unit after unit)) is.2

  at_end : (after : List (ComparedUnit K)) (unit : ComparedUnit K) (at : ℕ) → IsChangedAt before (after ++ unit ∷ []) at
      → (at < length after) ⊎ (at ≡ length after)
  at_end after unit at is =
      let inside = within (after ++ unit ∷ []) at is in
      let long = length-append after (unit ∷ []) in
      elim (cases_lt at (length after)) [ inl front ↦ inl front | inr behind ↦ inr (omega (arith, inside, long, behind)) ]

  -- no unit
  pub least_none : IsLeast before [] no_units
  least_none = record {
    covers = λ at is. absurd (omega (arith, within [] at is));
    first = λ some. absurd (omega (arith, some));
    last = λ some. absurd (omega (arith, some));
    none = λ is. refl;
  }

  -- a unit more that was there before
  pub least_same : (after : List (ComparedUnit K)) (unit : ComparedUnit K) (changed : Changed) → Contains before unit
      → IsLeast before after changed → IsLeast before (after ++ unit ∷ []) changed
  least_same after unit changed was least = record {
    covers = λ at is.
        elim (at_end after unit at is) [
          | inl inside ↦ least.covers at (front_changed after (unit ∷ []) at inside is)
          | inr end ↦
              absurd (changed_last after unit (subst (IsChangedAt before (after ++ unit ∷ [])) end is) was)
        ];
    first = λ some. changed_front after (unit ∷ []) changed.from (least.first some);
    last = λ some. changed_front after (unit ∷ []) (changed.from + changed.count - 1) (least.last some);
    none = least.none;
  }

  -- a unit more that changed
  pub least_more : (after : List (ComparedUnit K)) (unit : ComparedUnit K) (from count : ℕ) → IsChanged before unit
      → IsLeast before after (record { from = from; count = count })
      → IsLeast before (after ++ unit ∷ []) (with_unit (record { from = from; count = count }) (length after))
  least_more after unit from zero new least = record {
    covers = λ at is.
        elim (at_end after unit at is) [
          | inl inside ↦
              let none = least.covers at (front_changed after (unit ∷ []) at inside is) in absurd (omega (arith, none.0, none.1))
          | inr end ↦ (omega (arith, end), omega (arith, end))
        ];
    first = λ some. (unit, last_unit after unit, new);
    last = λ some.
        let here : length after ≡ length after + 1 - 1 = omega arith in
        subst (IsChangedAt before (after ++ unit ∷ [])) here (unit, last_unit after unit, new);
    none = λ is. absurd (omega (arith, is));
  }
  least_more after unit from (suc count) new least =
      let last = least.last (omega arith) in
      let inside = within after (from + suc count - 1) last in
      subst (IsLeast before (after ++ unit ∷ [])) (sym (with_some from (suc count) (length after) (omega arith)))
      (record {
        covers = λ at is.
            elim (at_end after unit at is) [
              | inl front ↦
                  let there = least.covers at (front_changed after (unit ∷ []) at front is) in
                  (there.0, omega (arith, there.0, there.1, inside))
              | inr end ↦ (omega (arith, end, inside), omega (arith, end, inside))
            ];
        first = λ some. changed_front after (unit ∷ []) from (least.first (omega arith));
        last = λ some.
            let here : length after ≡ from + (length after - from + 1) - 1 = omega (arith, inside) in
            subst (IsChangedAt before (after ++ unit ∷ [])) here (unit, last_unit after unit, new);
        none = λ is. absurd (omega (arith, is));
      })

  -- units more that all were there before
  pub least_all_same : (after more : List (ComparedUnit K)) (changed : Changed)
      → ((unit : ComparedUnit K) → Contains more unit → Contains before unit) → IsLeast before after changed
      → IsLeast before (after ++ more) changed
  least_all_same after more changed was least = record {
    covers = λ at is. least.covers at (front_changed after more at (inside at is) is);
    first = λ some. changed_front after more changed.from (least.first some);
    last = λ some. changed_front after more (changed.from + changed.count - 1) (least.last some);
    none = least.none;
  }
    where
      behind : (at past : ℕ) → at ≡ length after + past → IsChangedAt before (after ++ more) at → ⊥
      behind at past here is =
          is.2 (was is.0 (contained more past is.0
          (sym (at_behind after more past) ∙ (ap (slice_get (after ++ more)) (sym here) ∙ is.1))))

      place : (at : ℕ) → (at < length after) ⊎ ((past : ℕ) × (at ≡ length after + past))
      place at =
          elim (cases_lt at (length after)) [ inl front ↦ inl front | inr rest ↦ inr (at - length after, omega (arith, rest)) ]

      inside : (at : ℕ) → IsChangedAt before (after ++ more) at → at < length after
      inside at is = elim (place at) [ inl front ↦ front | inr rest ↦ absurd (behind at rest.0 rest.1 is) ]

  -- the first units of a list and one more, behind others
  parts : (front units : List (ComparedUnit K)) (index : ℕ) (unit : ComparedUnit K) → slice_get units index ≡ Some unit
      → (front ++ take index units) ++ unit ∷ [] ≡ front ++ take (index + 1) units
  parts front units index unit is =
      append_assoc front (take index units) (unit ∷ [])
      ∙ ap (λ rest. front ++ rest)
      (ap (λ last. take index units ++ last ∷ []) (sym (get_or_from_slice_get units index unit unit is))
      ∙ sym (take_more units index unit (slice_get_within units index unit is)))

  -- one of them that was there before
  pub least_next_same : (front units : List (ComparedUnit K)) (index : ℕ) (unit : ComparedUnit K) (changed : Changed)
      → slice_get units index ≡ Some unit → Contains before unit → IsLeast before (front ++ take index units) changed
      → IsLeast before (front ++ take (index + 1) units) changed
  least_next_same front units index unit changed is was least =
      subst (λ after. IsLeast before after changed) (parts front units index unit is)
      (least_same (front ++ take index units) unit changed was least)

  -- one that changed
  pub least_next_more : (front units : List (ComparedUnit K)) (index at : ℕ) (unit : ComparedUnit K) (changed : Changed)
      → slice_get units index ≡ Some unit → at ≡ length front → IsChanged before unit
      → IsLeast before (front ++ take index units) changed
      → IsLeast before (front ++ take (index + 1) units) (with_unit changed (at + index))
  least_next_more front units index at unit changed is long new least =
      let within = slice_get_within units index unit is in
      let end : length (front ++ take index units) ≡ at + index =
      omega (arith, long, length-append front (take index units), length-take-le index units (omega (arith, within))) in
      subst (λ place. IsLeast before (front ++ take (index + 1) units) (with_unit changed place)) end
      (subst (λ after. IsLeast before after (with_unit changed (length (front ++ take index units)))) (parts front units index unit is)
      (least_more (front ++ take index units) unit changed.from changed.count new least))
