-- The units of a stream and of the one with a splice in the place of another, in parts.
use Rattle.std.proofs.Common.{◌≡◌, refl, ap, sym, ◌∙◌, subst, ℕ, ◌+◌, ◌-◌, ◌≤◌, ◌↔◌, List, [], ◌++◌, length, take, drop, Option, arith, append_assoc, inl, inr, Some}
use Rattle.std.specs.Prelude.{Contains, slice_get}
use Rattle.std.proofs.lemmas.List.{drop-drop, length-append, length-drop, length-take-le, take-append-drop, take_rest}
use Rattle.std.proofs.lemmas.List.Elements.{Contains-append_left, Contains-append_right, Contains-append_cases}
use Rattle.std.proofs.lemmas.Option.{slice_get_within}
use Rattle.unit_outcomes.specs.declared.outcome.Outcome.{Outcome}
use Rattle.picture_keys.specs.declared.changed_units.changed.Changed.{Changed}
use Rattle.picture_keys.specs.Units.{AreDifferent, ComparedUnit, compared_units}
use Rattle.picture_keys.specs.Ranges.{IsLeast, no_units}
use Rattle.picture_keys.proofs.Lists.{placed_once, at_behind, at_front, place_of}
use Rattle.picture_keys.proofs.Rows.{compared_append, id_at, length-compared}
use Rattle.picture_keys.proofs.Least.{least_all_same, least_none}
use Rattle.picture_store.specs.declared.changing.UnitSplice.{UnitSplice}
use Rattle.picture_store.specs.Splices.{IsSplice, ids_with, outcomes_with, replaced}

module _ {X : Type 0} where
  -- nothing stands at two places
  abbrev pub IsOnce : List X → Type 0
  IsOnce xs = (x : X) (at other : ℕ) → slice_get xs at ≡ Some x → slice_get xs other ≡ Some x → at ≡ other

  -- so what is among the first isn't among the others
  pub apart : (xs ys : List X) → IsOnce (xs ++ ys) → (x : X) → Contains xs x → Contains ys x → ⊥
  apart xs ys once x first second =
      let here : (at : ℕ) × (slice_get xs at ≡ Some x) = place_of xs x first in
      let there : (at : ℕ) × (slice_get ys at ≡ Some x) = place_of ys x second in
      let within = slice_get_within xs here.0 x here.1 in
      let same : here.0 ≡ length xs + there.0 =
      once x here.0 (length xs + there.0) (at_front xs ys here.0 within ∙ here.1) (at_behind xs ys there.0 ∙ there.1) in
      absurd (omega (arith, same, within))

  module _ (front old made behind back : List X) (once : IsOnce (front ++ (made ++ (behind ++ back)))) where
    -- what is made and was there stood in the place of what is made
    pub made_was : (x : X) → Contains made x → Contains (front ++ (old ++ back)) x ↔ Contains old x
    made_was x is = (
      λ was.
          elim (Contains-append_cases front (old ++ back) x was) [
            | inl first ↦
                absurd (apart front (made ++ (behind ++ back)) once x first (Contains-append_left made (behind ++ back) x is))
            | inr rest ↦
                elim (Contains-append_cases old back x rest) [
                  | inl among ↦ among
                  | inr last ↦
                      absurd
                      (apart (front ++ made) (behind ++ back)
                      (subst IsOnce (sym (append_assoc front made (behind ++ back))) once) x (Contains-append_right front made x is)
                      (Contains-append_right behind back x last))
                ]
          ],
      λ among. Contains-append_right front (old ++ back) x (Contains-append_left old back x among),
    )

    -- and so of what stands behind it
    pub behind_was : (x : X) → Contains behind x → Contains (front ++ (old ++ back)) x ↔ Contains old x
    behind_was x is = (
      λ was.
          elim (Contains-append_cases front (old ++ back) x was) [
            | inl first ↦
                absurd
                (apart front (made ++ (behind ++ back)) once x first
                (Contains-append_right made (behind ++ back) x (Contains-append_left behind back x is)))
            | inr rest ↦
                elim (Contains-append_cases old back x rest) [
                  | inl among ↦ among
                  | inr last ↦
                      let parts : front ++ (made ++ (behind ++ back)) ≡ ((front ++ made) ++ behind) ++ back =
                      sym (append_assoc front made (behind ++ back)) ∙ sym (append_assoc (front ++ made) behind back) in
                      absurd
                      (apart ((front ++ made) ++ behind) back (subst IsOnce parts once) x
                      (Contains-append_right (front ++ made) behind x is) last)
                ]
          ],
      λ among. Contains-append_right front (old ++ back) x (Contains-append_left old back x among),
    )

-- a splice that is the least one for units in front is widened to the one for these and more
abbrev pub IsWidened : Changed → List (ComparedUnit ℕ) → List (ComparedUnit ℕ) → ℕ → Changed → Type 0
IsWidened start units old at result =
    (all before : List (ComparedUnit ℕ)) → length before ≡ at
    → ((unit : ComparedUnit ℕ) → Contains units unit → Contains all unit ↔ Contains old unit)
    → IsLeast all before start → IsLeast all (before ++ units) result

-- the items between two places
abbrev pub between : {X : Type 0} → ℕ → ℕ → List X → List X
between from to xs = take (to - from) (drop from xs)

module _ {X : Type 0} where
  behind_parts : (to past : ℕ) (xs : List X) → to ≤ past → drop to xs ≡ between to past xs ++ drop past xs
  behind_parts to past xs ordered =
      let sum : to + (past - to) ≡ past = omega (arith, ordered) in
      sym (take-append-drop (past - to) (drop to xs))
      ∙ ap (λ rest. between to past xs ++ rest) (drop-drop (past - to) to xs ∙ ap (λ n. drop n xs) sum)

  all_parts : (from past : ℕ) (xs : List X) → from ≤ past → xs ≡ take from xs ++ (between from past xs ++ drop past xs)
  all_parts from past xs ordered =
      sym (take-append-drop from xs) ∙ ap (λ rest. take from xs ++ rest) (behind_parts from past xs ordered)

  with_parts : (from to past : ℕ) (made xs : List X) → to ≤ past
      → replaced from to made xs ≡ take from xs ++ (made ++ (between to past xs ++ drop past xs))
  with_parts from to past made xs ordered =
      append_assoc (take from xs) made (drop to xs)
      ∙ ap (λ rest. take from xs ++ (made ++ rest)) (behind_parts to past xs ordered)

  past_parts : (from past count : ℕ) (later xs : List X)
      → replaced from past later xs ≡ take from xs ++ (take count later ++ (drop count later ++ drop past xs))
  past_parts from past count later xs =
      append_assoc (take from xs) later (drop past xs)
      ∙ ap (λ rest. take from xs ++ rest)
      (ap (λ all. all ++ drop past xs) (sym (take-append-drop count later)) ∙ append_assoc (take count later) (drop count later) (drop past xs))

  length-between : (from to : ℕ) (xs : List X) → to ≤ length xs → length (between from to xs) ≡ to - from
  length-between from to xs within =
      let left = length-drop from xs in length-take-le (to - from) (drop from xs) (omega (arith, left, within))

module _ (ids : List ℕ) (outcomes : List Outcome) (numbers : List (Option ℕ)) (splice : UnitSplice) (is : IsSplice splice ids)
    (outcomes_same : length outcomes ≡ length ids) (numbers_same : length numbers ≡ length ids) (past : ℕ)
    (behind : splice.to ≤ past) (within : past ≤ length ids) (later : List (Option ℕ))
    (long : length later + splice.to ≡ length splice.ids.items + past) (different : AreDifferent (ids_with splice ids)) where
  abbrev count : ℕ
  count = length splice.ids.items

  ordered : splice.from ≤ past
  ordered = omega (arith, is.ordered, behind)

  -- the units in front, those that go, those that come, those behind them that are found anew, and the others
  abbrev pub front : List (ComparedUnit ℕ)
  front = compared_units (take splice.from ids) (take splice.from outcomes) (take splice.from numbers)

  abbrev pub old : List (ComparedUnit ℕ)
  old = compared_units (between splice.from past ids) (between splice.from past outcomes) (between splice.from past numbers)

  abbrev pub made : List (ComparedUnit ℕ)
  made = compared_units splice.ids.items splice.outcomes.items (take count later)

  abbrev pub anew : List (ComparedUnit ℕ)
  anew = compared_units (between splice.to past ids) (between splice.to past outcomes) (drop count later)

  abbrev back : List (ComparedUnit ℕ)
  back = compared_units (drop past ids) (drop past outcomes) (drop past numbers)

  length-made : length (take count later) ≡ count
  length-made = length-take-le count later (omega (arith, long, behind))

  length-anew : length (drop count later) ≡ past - splice.to
  length-anew = length-drop count later ∙ omega (arith, long, behind)

  front_outcomes : length (take splice.from outcomes) ≡ length (take splice.from ids)
  front_outcomes =
      length-take-le splice.from outcomes (omega (arith, ordered, within, outcomes_same))
      ∙ sym (length-take-le splice.from ids (omega (arith, ordered, within)))

  front_numbers : length (take splice.from numbers) ≡ length (take splice.from ids)
  front_numbers =
      length-take-le splice.from numbers (omega (arith, ordered, within, numbers_same))
      ∙ sym (length-take-le splice.from ids (omega (arith, ordered, within)))

  old_outcomes : length (between splice.from past outcomes) ≡ length (between splice.from past ids)
  old_outcomes =
      length-between splice.from past outcomes (omega (arith, within, outcomes_same))
      ∙ sym (length-between splice.from past ids within)

  old_numbers : length (between splice.from past numbers) ≡ length (between splice.from past ids)
  old_numbers =
      length-between splice.from past numbers (omega (arith, within, numbers_same))
      ∙ sym (length-between splice.from past ids within)

  anew_outcomes : length (between splice.to past outcomes) ≡ length (between splice.to past ids)
  anew_outcomes =
      length-between splice.to past outcomes (omega (arith, within, outcomes_same))
      ∙ sym (length-between splice.to past ids within)

  anew_numbers : length (drop count later) ≡ length (between splice.to past ids)
  anew_numbers = length-anew ∙ sym (length-between splice.to past ids within)

  -- columns in three parts, and in four
  three : (a b c : List ℕ) (k l m : List Outcome) (x y z : List (Option ℕ)) → length k ≡ length a → length x ≡ length a
      → length l ≡ length b → length y ≡ length b
      → compared_units (a ++ (b ++ c)) (k ++ (l ++ m)) (x ++ (y ++ z))
      ≡ compared_units a k x ++ (compared_units b l y ++ compared_units c m z)
  three a b c k l m x y z first second third fourth =
      compared_append a (b ++ c) k (l ++ m) x (y ++ z) first second
      ∙ ap (λ rest. compared_units a k x ++ rest) (compared_append b c l m y z third fourth)

  same_columns : (a b : List ℕ) (k l : List Outcome) (x y : List (Option ℕ)) → a ≡ b → k ≡ l → x ≡ y
      → compared_units a k x ≡ compared_units b l y
  same_columns a b k l x y first second third = rw (first, second, third) refl

  pub before_parts : compared_units ids outcomes numbers ≡ front ++ (old ++ back)
  before_parts =
      same_columns _ _ _ _ _ _ (all_parts splice.from past ids ordered) (all_parts splice.from past outcomes ordered)
      (all_parts splice.from past numbers ordered)
      ∙ three (take splice.from ids) (between splice.from past ids) (drop past ids) (take splice.from outcomes)
      (between splice.from past outcomes) (drop past outcomes) (take splice.from numbers) (between splice.from past numbers)
      (drop past numbers) front_outcomes front_numbers old_outcomes old_numbers

  pub after_parts : compared_units (ids_with splice ids) (outcomes_with splice outcomes) (replaced splice.from past later numbers)
      ≡ front ++ (made ++ (anew ++ back))
  after_parts =
      same_columns _ _ _ _ _ _ (with_parts splice.from splice.to past splice.ids.items ids behind)
      (with_parts splice.from splice.to past splice.outcomes.items outcomes behind) (past_parts splice.from past count later numbers)
      ∙ (three (take splice.from ids) splice.ids.items (between splice.to past ids ++ drop past ids) (take splice.from outcomes)
      splice.outcomes.items (between splice.to past outcomes ++ drop past outcomes) (take splice.from numbers) (take count later)
      (drop count later ++ drop past numbers) front_outcomes front_numbers (sym is.same) length-made
      ∙ ap (λ rest. front ++ (made ++ rest))
      (compared_append (between splice.to past ids) (drop past ids) (between splice.to past outcomes) (drop past outcomes)
      (drop count later) (drop past numbers) anew_outcomes anew_numbers))

  pub once : IsOnce (front ++ (made ++ (anew ++ back)))
  once =
      subst IsOnce after_parts
      (λ unit at other first second.
      placed_once (ids_with splice ids) different unit.id at other
      (id_at (ids_with splice ids) (outcomes_with splice outcomes) (replaced splice.from past later numbers) at unit first)
      (id_at (ids_with splice ids) (outcomes_with splice outcomes) (replaced splice.from past later numbers) other unit second))

  pub length-front : length front ≡ splice.from
  length-front =
      length-compared (take splice.from ids) (take splice.from outcomes) (take splice.from numbers) front_outcomes front_numbers
      ∙ length-take-le splice.from ids (omega (arith, ordered, within))

  pub length-front_made : length (front ++ made) ≡ splice.from + count
  length-front_made =
      length-append front made
      ∙ omega (
        arith,
        length-front,
        length-compared splice.ids.items splice.outcomes.items (take count later) (sym is.same) length-made,
      )

  -- the splice that is found by going over those that come and those that are found anew is the least one
  pub least_found : (made_ids : List ℕ) (made_outcomes : List Outcome) (n : ℕ) (start first second : Changed)
      → made_ids ≡ splice.ids.items → made_outcomes ≡ splice.outcomes.items → n ≡ count → start ≡ no_units
      → IsWidened start (compared_units made_ids made_outcomes (take n later)) old splice.from first
      → IsWidened first
      (compared_units (between splice.to past ids) (between splice.to past outcomes) (take (length later - n) (drop n later))) old
      (splice.from + n) second
      → IsLeast (compared_units ids outcomes numbers)
      (compared_units (ids_with splice ids) (outcomes_with splice outcomes) (replaced splice.from past later numbers)) second
  least_found made_ids made_outcomes n start first second ids_are outcomes_are n_is start_is over_made over_anew =
      let all : List (ComparedUnit ℕ) = front ++ (old ++ back) in
      let begun : IsLeast all front no_units =
      least_all_same all [] front no_units (λ unit is. Contains-append_left front (old ++ back) unit is) (least_none all) in
      let made_are : compared_units made_ids made_outcomes (take n later) ≡ made =
      same_columns made_ids splice.ids.items made_outcomes splice.outcomes.items (take n later) (take count later) ids_are outcomes_are
      (ap (λ k. take k later) n_is) in
      let over_all : IsWidened no_units made old splice.from first =
      subst (λ s. IsWidened s made old splice.from first) start_is
      (subst (λ units. IsWidened start units old splice.from first) made_are over_made) in
      let over_rest : IsWidened first anew old (splice.from + count) second =
      subst (λ k. IsWidened first
      (compared_units (between splice.to past ids) (between splice.to past outcomes) (drop k later)) old (splice.from + k) second)
      n_is
      (subst (λ rest. IsWidened first (compared_units (between splice.to past ids) (between splice.to past outcomes) rest) old
      (splice.from + n) second) (take_rest later n) over_anew) in
      let one : IsLeast all (front ++ made) first = over_all all front length-front (made_was front old made anew back once) begun in
      let two : IsLeast all ((front ++ made) ++ anew) second =
      over_rest all (front ++ made) length-front_made (behind_was front old made anew back once) one in
      let three_parts : IsLeast all (((front ++ made) ++ anew) ++ back) second =
      least_all_same all ((front ++ made) ++ anew) back second
      (λ unit is. Contains-append_right front (old ++ back) unit (Contains-append_right old back unit is)) two in
      let parts : ((front ++ made) ++ anew) ++ back ≡ front ++ (made ++ (anew ++ back)) =
      append_assoc (front ++ made) anew back ∙ append_assoc front made (anew ++ back) in
      rw (before_parts, after_parts) (subst (λ after. IsLeast all after second) parts three_parts)
