-- What stands before each period, period by period.
use Rattle.std.proofs.Common.{◌≡◌, ℕ, ◌+◌, ◌-◌, ◌<◌, ◌≤◌, ⊎_elim, cond, is_some, List, [], ◌∷◌, ◌++◌, length, take, drop, get_or, refl, sym, ap, ◌∙◌, arith}
use Rattle.std.proofs.lemmas.Bool.{cases_lt}
use Rattle.std.proofs.lemmas.List.{append-nil, take_more, take-append-drop, length-append, length_push, get_or_append_left, get_or_push, take-take}
use Rattle.std.proofs.lemmas.List.Concat.{flat_map-append}
use Rattle.std.proofs.lemmas.List.Sums.{sum_by-append, count_by-le-length}
use Rattle.std.specs.List.Sorted.{IsNonDecreasingBy}
use Rattle.output_order.specs.declared.counting.Count.{Count}
use Rattle.output_order.specs.Periods.{PeriodValue, units_of, valid_in}
use Rattle.output_order.specs.PeriodLists.{count_at, AreCounted}

pub units_of-append : (periods more : List PeriodValue) → units_of (periods ++ more) ≡ units_of periods ++ units_of more
units_of-append periods more = flat_map-append (λ period. period.units) periods more

module _ (periods : List PeriodValue) where
  pub units_more : (at : ℕ) (d : PeriodValue) → at < length periods → units_of (take (at + 1) periods) ≡ units_of (take at periods) ++ (get_or periods at d).units
  units_more at d here = ap units_of (take_more periods at d here) ∙ units_of-append (take at periods) (get_or periods at d ∷ [])
      ∙ ap (λ rest. units_of (take at periods) ++ rest) (append-nil (get_or periods at d).units)

  pub units_parts : (at : ℕ) → units_of periods ≡ units_of (take at periods) ++ units_of (drop at periods)
  units_parts at = ap units_of (sym (take-append-drop at periods)) ∙ units_of-append (take at periods) (drop at periods)

  pub units_upto : (at : ℕ) → length (units_of (take at periods)) ≤ length (units_of periods)
  units_upto at =
      let all : length (units_of periods) ≡ length (units_of (take at periods) ++ units_of (drop at periods)) = ap length (units_parts at) in
      omega (arith, all, length-append (units_of (take at periods)) (units_of (drop at periods)))

  -- the units before a period are among those before a later one
  pub units_before : (one other : ℕ) → one ≤ other → length (units_of (take one periods)) ≤ length (units_of (take other periods))
  units_before one other upto =
      let parts : take other periods ≡ take one periods ++ drop one (take other periods) =
      sym (take-append-drop one (take other periods)) ∙ ap (λ front. front ++ drop one (take other periods)) (take-take one other periods upto) in
      let all : length (units_of (take other periods)) ≡ length (units_of (take one periods) ++ units_of (drop one (take other periods))) =
      ap (λ front. length (units_of front)) parts ∙ ap length (units_of-append (take one periods) (drop one (take other periods))) in
      omega (arith, all, length-append (units_of (take one periods)) (units_of (drop one (take other periods))))

  -- a period more
  pub count_more : (at : ℕ) (d : PeriodValue) → at < length periods
      → count_at periods (at + 1) ≡ record { start = (count_at periods at).start + length (get_or periods at d).units; earlier = (count_at periods at).earlier + valid_in (get_or periods at d).units }
  count_more at d here =
      let before = units_of (take at periods) in
      let more = units_more at d here in
      let start : length (units_of (take (at + 1) periods)) ≡ length before + length (get_or periods at d).units = ap length more ∙ length-append before (get_or periods at d).units in
      let earlier : valid_in (units_of (take (at + 1) periods)) ≡ valid_in before + valid_in (get_or periods at d).units =
      ap valid_in more ∙ sum_by-append (λ unit. cond (is_some unit) 1 0) before (get_or periods at d).units in
      rw (start, earlier) refl

  module _ (at : ℕ) (counts : List Count) (counted : AreCounted periods at counts) where
    -- the count of the next period, by that of the last one
    pub next_is : (d : Count) (e : PeriodValue) → 0 < at → at < length periods
        → count_at periods at ≡ record { start = (get_or counts (at - 1) d).start + length (get_or periods (at - 1) e).units; earlier = (get_or counts (at - 1) d).earlier + valid_in (get_or periods (at - 1) e).units }
    next_is d e some here =
        let last : at - 1 + 1 ≡ at = omega arith in
        ap (count_at periods) (sym last) ∙ count_more (at - 1) e (omega arith)
        ∙ ap (λ count. let next : Count = record { start = count.start + length (get_or periods (at - 1) e).units; earlier = count.earlier + valid_in (get_or periods (at - 1) e).units } in next) (sym (counted.each (at - 1) d (omega arith)))

    pub AreCounted-push : (count : Count) → count ≡ count_at periods at → AreCounted periods (at + 1) (counts ++ count ∷ [])
    AreCounted-push count is = record {
      as_many = length_push counts count ∙ ap (λ n. n + 1) counted.as_many;
      each = λ k d below. ⊎_elim
          (λ earlier. get_or_append_left counts (count ∷ []) d k (omega (arith, counted.as_many)) ∙ counted.each k d earlier)
          (λ last. let here : k ≡ at = omega arith in rw here (get_or_push counts count d at counted.as_many ∙ is))
          (cases_lt k at);
    }

  pub start_fits : (at : ℕ) → (count_at periods at).start ≤ length (units_of periods)
  start_fits at = units_upto at

  pub earlier_fits : (at : ℕ) → (count_at periods at).earlier ≤ length (units_of periods)
  earlier_fits at = omega (arith, units_upto at, count_by-le-length is_some (units_of (take at periods)))

-- starts don't fall
pub starts_rise : (periods : List PeriodValue) (counts : List Count) → AreCounted periods (length periods) counts → IsNonDecreasingBy (λ count. count.start) counts
starts_rise periods counts counted i j d upto within =
    let j_within : j < length periods = omega (arith, counted.as_many) in
    let inner : length (units_of (take i (take j periods))) ≡ length (units_of (take i periods)) = ap (λ front. length (units_of front)) (take-take i j periods upto) in
    let least : length (units_of (take i (take j periods))) ≤ length (units_of (take j periods)) = units_upto (take j periods) i in
    let one : (get_or counts i d).start ≡ length (units_of (take i periods)) = ap (λ count. count.start) (counted.each i d (omega arith)) in
    let other : (get_or counts j d).start ≡ length (units_of (take j periods)) = ap (λ count. count.start) (counted.each j d j_within) in
    omega (arith, inner, least, one, other)

-- the units before a period and its own are no more than all
pub period_fits : (periods : List PeriodValue) (at : ℕ) (d : PeriodValue) → at < length periods
    → length (units_of (take at periods)) + length (get_or periods at d).units ≤ length (units_of periods)
period_fits periods at d here =
    let more : length (units_of (take (at + 1) periods)) ≡ length (units_of (take at periods) ++ (get_or periods at d).units) = ap length (units_more periods at d here) in
    omega (arith, more, length-append (units_of (take at periods)) (get_or periods at d).units, units_upto periods (at + 1))
