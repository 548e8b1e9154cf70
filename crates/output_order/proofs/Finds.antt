-- The period in which a unit stands, by the counts.
use Rattle.std.proofs.Common.{◌≡◌, ℕ, ◌+◌, ◌-◌, ◌<◌, ◌≤◌, ⊎_elim, Option, None, option_map, List, [], ◌∷◌, ◌++◌, length, map, take, drop, get_or, All, sym, ap, ◌∙◌, count_by, arith}
use Rattle.std.proofs.lemmas.Bool.{cases_lt}
use Rattle.std.proofs.lemmas.List.{take_all, drop-drop, get_or-drop, length-drop}
use Rattle.std.proofs.lemmas.List.Elements.{All-drop, All-head}
use Rattle.std.specs.List.{AllWithin}
use Rattle.unit_outcomes.specs.declared.outcome.Outcome.{Outcome}
use Rattle.output_order.specs.OutputOrder as order
use Rattle.output_order.specs.declared.shown.Shown.{Shown}
use Rattle.output_order.specs.declared.counting.Count.{Count}
use Rattle.output_order.specs.Shown.{shown_of}
use Rattle.output_order.specs.OrderKeys.{is_first, order_keys}
use Rattle.output_order.specs.Periods.{PeriodValue, units_of, valid_in, IsPeriod, IsBegun, ArePeriods}
use Rattle.output_order.specs.PeriodLists.{count_at, AreCounted}
use Rattle.output_order.specs.Bounds.{period_size}
use Rattle.output_order.specs.Places.{IsFound}
use Rattle.output_order.proofs.Starts.{units_parts, units_more, count_more}
use Rattle.output_order.proofs.PeriodPositions.{position_is, size_is}

module _ (periods : List PeriodValue) (counts : List Count) (counted : AreCounted periods (length periods) counts)
    (place found : ℕ) (within : place < length (units_of periods)) (bound : found ≤ length counts)
    (before : AllWithin (λ count. count.start < place + 1) counts 0 found) (after : AllWithin (λ count. place + 1 ≤ count.start) counts found (length counts)) where
  none : Count
  none = record { start = 0; earlier = 0 }

  start_is : (at : ℕ) → at < length periods → (get_or counts at none).start ≡ (count_at periods at).start
  start_is at here = ap (λ count. count.start) (counted.each at none here)

  pub found_some : 1 ≤ found
  found_some = ⊎_elim
      (λ zero. ⊎_elim
      (λ some. absurd (omega (arith, after 0 none (omega arith) (omega (arith, counted.as_many)), start_is 0 some)))
      (λ no. absurd (omega (arith, ap (λ all. length (units_of all)) (sym (take_all 0 periods no)))))
      (cases_lt 0 (length periods)))
      (λ some. some)
      (cases_lt found 1)

  pub found_is : IsFound periods place (found - 1)
  found_is =
      let at = found - 1 in
      let some = found_some in
      let inside : at < length periods = omega (arith, counted.as_many) in
      record {
        inside = inside;
        from = omega (arith, before at none (omega arith) (omega arith), start_is at inside);
        below = λ d.
            let more : (count_at periods (at + 1)).start ≡ (count_at periods at).start + length (get_or periods at d).units = ap (λ count. count.start) (count_more periods at d inside) in
            ⊎_elim
            (λ next. omega (arith, more, after (at + 1) none (omega arith) (omega (arith, counted.as_many)), start_is (at + 1) next))
            (λ last. let all : length (units_of (take (at + 1) periods)) ≡ length (units_of periods) = ap (λ front. length (units_of front)) (take_all (at + 1) periods last) in omega (arith, more, all))
            (cases_lt (at + 1) (length periods));
      }

-- a period that begins goes on beginning with units behind it
IsBegun-more : (units rest : List (Option Shown)) → IsPeriod units → IsBegun units → IsBegun (units ++ rest)
IsBegun-more [] rest is begins = absurd is
IsBegun-more (first ∷ units) rest is begins = begins

pub IsBegun-units : (periods : List PeriodValue) → All (λ period. IsPeriod period.units) periods → All (λ period. IsBegun period.units) periods → IsBegun (units_of periods)
IsBegun-units [] each begins = tt
IsBegun-units (period ∷ periods) each begins = IsBegun-more period.units (units_of periods)
    (All-head (λ one. IsPeriod one.units) period periods each) (All-head (λ one. IsBegun one.units) period periods begins)

module _ (periods : List PeriodValue) (are : ArePeriods periods) (outcomes : List Outcome) (is : map shown_of outcomes ≡ units_of periods)
    (place at : ℕ) (found : IsFound periods place at) (d : PeriodValue) where
  abbrev front : List (Option Shown)
  front = units_of (take at periods)

  abbrev mid : List (Option Shown)
  mid = (get_or periods at d).units

  abbrev back : List (Option Shown)
  back = units_of (drop (at + 1) periods)

  split : map shown_of outcomes ≡ front ++ mid ++ back
  split = is ∙ units_parts periods (at + 1) ∙ ap (λ all. all ++ back) (units_more periods at d found.inside)

  begins_mid : 0 < length front → IsBegun mid
  begins_mid some = ⊎_elim
      (λ zero. let none : at ≡ 0 = omega arith in absurd (omega (arith, ap (λ n. length (units_of (take n periods))) none)))
      (λ later.
      let last : 1 + (at - 1) ≡ at = omega arith in
      let begins = are.later (at - 1) d (omega (arith, length-drop 1 periods, found.inside)) in
      rw (get_or-drop 1 periods (at - 1) d, last) at begins)
      (cases_lt at 1)

  begins_back : IsBegun back
  begins_back =
      let same : drop at (drop 1 periods) ≡ drop (at + 1) periods = drop-drop at 1 periods ∙ ap (λ n. drop n periods) (let sum : 1 + at ≡ at + 1 = omega arith in sum) in
      IsBegun-units (drop (at + 1) periods) (All-drop (λ period. IsPeriod period.units) (at + 1) periods are.each) (rw same at (All-drop (λ period. IsBegun period.units) at (drop 1 periods) are.later))

  offset_within : place - length front < length mid
  offset_within = omega (arith, found.below d, found.from)

  place_is : length front + (place - length front) ≡ place
  place_is = omega (arith, found.from)

  -- the position of the unit
  pub position_found : (unit : Option Shown) → get_or mid (place - length front) None ≡ unit
      → order.position_at outcomes place ≡ option_map (λ shown. valid_in front + count_by (λ other. is_first other (record { order = shown.order; offset = place - length front })) (order_keys mid)) unit
  position_found unit at_is = ap (order.position_at outcomes) (sym place_is)
      ∙ position_is outcomes front mid back split (are.each at d found.inside) begins_mid begins_back (place - length front) offset_within unit at_is

  -- the valid units of its period
  pub size_found : valid_in mid ≡ period_size outcomes place
  size_found = let size = size_is outcomes front mid back split (are.each at d found.inside) begins_mid begins_back (place - length front) offset_within in
      rw place_is at size
