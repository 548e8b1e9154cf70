-- A change inside one of the periods.
use Rattle.std.proofs.Common.{◌≡◌, ℕ, zero, suc, ◌+◌, ◌-◌, ◌<◌, ◌≤◌, ◌^◌, ⊎_elim, false, Option, Some, None, List, [], ◌∷◌, ◌++◌, length, map, take, drop, get_or, set, All, refl, sym, ap, ◌∙◌, arith}
use Rattle.std.proofs.Math.Seq.{drop-cons}
use Rattle.std.proofs.lemmas.Bool.{cases_lt}
use Rattle.std.proofs.lemmas.List.{append_assoc, append-nil, take-append-drop, take-set, drop-set, take_all, take-take, drop-take, length-take-le, length-append, length-map, length-drop, take-append-le, get_or-take}
use Rattle.std.proofs.lemmas.Slice.{drop-append-drop}
use Rattle.std.proofs.lemmas.List.Elements.{All-nil, All-cons, All-append, All-take, All-drop}
use Rattle.std.specs.List.{slice_range}
use Rattle.output_order.specs.declared.shown.Shown.{Shown}
use Rattle.output_order.specs.declared.counting.Count.{Count}
use Rattle.output_order.specs.declared.touching.Touched.{Touched}
use Rattle.output_order.specs.Shown.{begins_period}
use Rattle.output_order.specs.Periods.{PeriodValue, units_of, IsPeriod, IsBegun, ArePeriods, spliced}
use Rattle.output_order.specs.PeriodLists.{InsideValue, changed_inside, last_changed, changed, FitsInside, IsSplice, AreCounted}
use Rattle.output_order.specs.Places.{IsTouched, IsInside, IsTouchedInside, change_inside}
use Rattle.output_order.proofs.Starts.{units_more, units_before}
use Rattle.output_order.proofs.Splices.{periods_after, units_after}

-- the last of the first periods
pub last_one : (periods : List PeriodValue) (count : ℕ) (d : PeriodValue) → 0 < count → count ≤ length periods
    → drop (length (take count periods) - 1) (take count periods) ≡ get_or periods (count - 1) d ∷ []
last_one periods count d some within =
    let at : length (take count periods) - 1 ≡ count - 1 = omega (arith, length-take-le count periods within) in
    let sum : count - 1 + 1 ≡ count = omega arith in
    ap (λ n. drop n (take count periods)) at ∙ ap (λ n. drop (count - 1) (take n periods)) (sym sum) ∙ drop-take (count - 1) 1 periods
    ∙ ap (take 1) (drop-cons periods (count - 1) d (omega arith))

module _ (periods : List PeriodValue) (count : ℕ) (some : 0 < count) (within : count ≤ length periods) (inside : InsideValue) (d : PeriodValue) where
  abbrev at : ℕ
  at = count - 1

  pub last_changed-is : last_changed (Some inside) (take count periods) ≡ take at periods ++ changed_inside inside (get_or periods at d) ∷ []
  last_changed-is =
      let last : length (take count periods) - 1 ≡ at = omega (arith, length-take-le count periods within) in
      ap (λ back. take (length (take count periods) - 1) (take count periods) ++ map (changed_inside inside) back) (last_one periods count d some within)
      ∙ ap (λ n. take n (take count periods) ++ changed_inside inside (get_or periods at d) ∷ []) last
      ∙ ap (λ front. front ++ changed_inside inside (get_or periods at d) ∷ []) (take-take at count periods (omega arith))

  -- what it leaves
  pub set-last : set periods at (changed_inside inside (get_or periods at d)) ≡ last_changed (Some inside) (take count periods) ++ drop count periods
  set-last =
      let new = changed_inside inside (get_or periods at d) in
      let next : at + 1 ≡ count = omega arith in
      sym (take-append-drop at (set periods at new)) ∙ ap (λ front. front ++ drop at (set periods at new)) (take-set periods at new)
      ∙ ap (λ back. take at periods ++ back) (drop-set periods at new (omega arith)) ∙ ap (λ n. take at periods ++ new ∷ drop n periods) next
      ∙ sym (append_assoc (take at periods) (new ∷ []) (drop count periods)) ∙ ap (λ front. front ++ drop count periods) (sym last_changed-is)

pub length-last_changed : (inside : Option InsideValue) (periods : List PeriodValue) → length (last_changed inside periods) ≡ length periods
length-last_changed None periods = refl
length-last_changed (Some inside) periods =
    let last = length periods - 1 in
    length-append (take last periods) (map (changed_inside inside) (drop last periods))
    ∙ omega (arith, length-map (drop last periods) (changed_inside inside), length-take-le last periods (omega arith), length-drop last periods)

-- the periods before the last stay
take-last_changed : (inside : Option InsideValue) (periods : List PeriodValue) (count at : ℕ) → at < count → count ≤ length periods
    → take at (last_changed inside (take count periods)) ≡ take at periods
take-last_changed None periods count at before within = take-take at count periods (omega (arith, before))
take-last_changed (Some inside) periods count at before within =
    let last = length (take count periods) - 1 in
    let long : length (take count periods) ≡ count = length-take-le count periods within in
    take-append-le at (take last (take count periods)) (map (changed_inside inside) (drop last (take count periods)))
    (omega (arith, length-take-le last (take count periods) (omega arith), long, before))
    ∙ take-take at last (take count periods) (omega (arith, long, before)) ∙ take-take at count periods (omega (arith, before))

-- the periods after a change, from those with the change inside the last of the first ones
module _ (periods new : List PeriodValue) (inside : Option InsideValue) (first past : ℕ) (ordered : first ≤ past) (within : past ≤ length periods) where
  abbrev front : List PeriodValue
  front = last_changed inside (take first periods)

  abbrev now : List PeriodValue
  now = front ++ drop first periods

  pub front_long : length front ≡ first
  front_long = length-last_changed inside (take first periods) ∙ length-take-le first periods (omega (arith, ordered, within))

  pub length-now : length now ≡ length periods
  length-now = length-append front (drop first periods) ∙ omega (arith, front_long, length-drop first periods, ordered, within)

  pub replaced : take first now ++ new ++ drop past now ≡ front ++ new ++ drop past periods
  replaced =
      let before : take first now ≡ front = take-append-le first front (drop first periods) (omega (arith, front_long)) ∙ take_all first front (omega (arith, front_long)) in
      let behind : drop past now ≡ drop past periods = drop-append-drop first periods front past ordered front_long in
      rw (before, behind) refl

  -- the first counts stay those of the periods
  pub counted_first : (counts : List Count) → AreCounted periods (length periods) counts
      → AreCounted (front ++ new ++ drop past periods) (length (take first counts)) (take first counts)
  counted_first counts counted = record {
    as_many = refl;
    each = λ at d below.
        let early : at < first = omega (arith, below, length-take-le first counts (omega (arith, counted.as_many, ordered, within))) in
        let before : take at (front ++ new ++ drop past periods) ≡ take at periods =
        take-append-le at (front ++ new) (drop past periods) (omega (arith, early, front_long, length-append front new))
        ∙ take-append-le at front new (omega (arith, early, front_long)) ∙ take-last_changed inside periods first at early (omega (arith, ordered, within)) in
        rw before (get_or-take first counts at d early ∙ counted.each at d (omega (arith, early, ordered, within)));
  }

-- units that stay, units that come, and those that stay behind them
front_period : (units rest : List (Option Shown)) (count : ℕ) → 0 < count → IsPeriod units → All (λ unit. begins_period unit ≡ false) rest → IsPeriod (take count units ++ rest)
front_period [] rest count some is none = absurd is
front_period (first ∷ units) rest zero some is none = absurd (omega (arith, some))
front_period (first ∷ units) rest (suc count) some is none =
    All-append (λ unit. begins_period unit ≡ false) (take count units) rest (All-take (λ unit. begins_period unit ≡ false) count units is) none

behind_none : (units : List (Option Shown)) (count : ℕ) → 0 < count → IsPeriod units → All (λ unit. begins_period unit ≡ false) (drop count units)
behind_none [] count some is = absurd is
behind_none (first ∷ units) zero some is = absurd (omega (arith, some))
behind_none (first ∷ units) (suc count) some is = All-drop (λ unit. begins_period unit ≡ false) count units is

-- units come inside the one period that is touched
module _ (periods : List PeriodValue) (are : ArePeriods periods) (touched : Touched) (low high : ℕ) (units : List (Option Shown)) (ordered : low ≤ high)
    (is : IsTouched periods low high touched) (inside : IsTouchedInside periods touched low high units) (d : PeriodValue) where
  abbrev change : InsideValue
  change = record { low = low - touched.start; high = high - touched.start; units = units }

  abbrev period : PeriodValue
  period = get_or periods touched.first d

  here : touched.first < length periods
  here = omega (arith, inside.one, is.within)

  upto : high ≤ touched.start + length period.units
  upto =
      let all : length (units_of (take touched.past periods)) ≡ length (units_of (take touched.first periods)) + length period.units =
      ap (λ n. length (units_of (take n periods))) inside.one ∙ ap length (units_more periods touched.first d here)
      ∙ length-append (units_of (take touched.first periods)) period.units in
      omega (arith, all, is.upto, is.start_is)

  alone : slice_range periods touched.first touched.past ≡ period ∷ []
  alone =
      let one : touched.past - touched.first ≡ 1 = omega (arith, inside.one) in
      ap (λ n. take n (drop touched.first periods)) one ∙ ap (take 1) (drop-cons periods touched.first d here)

  new_are : ArePeriods (changed_inside change period ∷ [])
  new_are = record {
    each = All-cons (λ one. IsPeriod one.units) (changed_inside change period) []
        (rw (append_assoc (take (low - touched.start) period.units) units (drop (high - touched.start) period.units))
        (front_period period.units (units ++ drop (high - touched.start) period.units) (low - touched.start) (omega (arith, inside.kept)) (are.each touched.first d here)
        (All-append (λ unit. begins_period unit ≡ false) units (drop (high - touched.start) period.units) inside.none
        (behind_none period.units (high - touched.start) (omega (arith, inside.kept, ordered)) (are.each touched.first d here)))))
        (All-nil (λ one. IsPeriod one.units));
    later = All-nil (λ one. IsBegun one.units);
  }

  new_units : units_of (changed_inside change period ∷ []) ≡ spliced (low - touched.start) (high - touched.start) units (units_of (slice_range periods touched.first touched.past))
  new_units = append-nil (changed_inside change period).units
      ∙ sym (ap (λ all. spliced (low - touched.start) (high - touched.start) units (units_of all)) alone
      ∙ ap (spliced (low - touched.start) (high - touched.start) units) (append-nil period.units))

  changed_is : changed (change_inside touched low high units) periods ≡ take touched.first periods ++ changed_inside change period ∷ [] ++ drop touched.past periods
  changed_is =
      let at : touched.past - 1 ≡ touched.first = omega (arith, inside.one) in
      let front : last_changed (Some change) (take touched.past periods) ≡ take touched.first periods ++ changed_inside change period ∷ [] =
      last_changed-is periods touched.past (omega (arith, inside.one)) is.within change d
      ∙ ap (λ n. take n periods ++ changed_inside change (get_or periods n d) ∷ []) at in
      ap (λ all. all ++ [] ++ drop touched.past periods) front
      ∙ ap (λ all. all ++ drop touched.past periods) (append-nil (take touched.first periods ++ changed_inside change period ∷ []))

  pub inside_is : length (spliced low high units (units_of periods)) < 2 ^ 64 → IsSplice (change_inside touched low high units) periods low high units
  inside_is fits =
      let parts = periods_after periods are low high touched.first touched.past touched.start ordered is units (changed_inside change period ∷ []) new_are new_units in
      let all = units_after periods are low high touched.first touched.past touched.start ordered is units (changed_inside change period ∷ []) new_are new_units in
      let does = ap units_of changed_is ∙ all in
      record {
        can = record {
          inside = (
            omega (arith, length-take-le touched.past periods is.within, inside.one),
            rw (last_one periods touched.past d (omega (arith, inside.one)) is.within) (All-cons (FitsInside change) (get_or periods (touched.past - 1) d) [] fits_inside (All-nil (FitsInside change))),
          );
          ordered = omega arith;
          within = is.within;
          cut = rw changed_is parts;
          fits = omega (arith, ap length does, fits);
        };
        does = does;
      }
    where
      at : touched.past - 1 ≡ touched.first
      at = omega (arith, inside.one)

      fits_inside : FitsInside change (get_or periods (touched.past - 1) d)
      fits_inside = rw at (record {
        ordered = omega (arith, ordered);
        within = omega (arith, upto);
        spare = omega (arith, inside.spare d, ordered, inside.kept);
      })

-- the one period inside which units can come is the one that is touched
pub touched_inside : (periods : List PeriodValue) (touched : Touched) (at low high : ℕ) (units : List (Option Shown)) → low ≤ high → IsTouched periods low high touched
    → IsInside periods at low high units → IsTouchedInside periods touched low high units
touched_inside periods touched at low high units ordered is inside =
    let first : touched.first ≡ at = ⊎_elim
    (λ (before : touched.first < at). absurd (omega (arith, is.next (omega (arith, inside.within, before)), units_before periods (touched.first + 1) at (omega (arith, before)), inside.kept)))
    (λ (from : at ≤ touched.first). ⊎_elim
    (λ (behind : at < touched.first). absurd (omega (arith, is.inner (omega (arith, behind)), is.start_is, units_before periods (at + 1) touched.first (omega (arith, behind)), inside.upto, ordered)))
    (λ (upto : touched.first ≤ at). omega (arith, from, upto))
    (cases_lt at touched.first))
    (cases_lt touched.first at) in
    let past : touched.past ≡ at + 1 = ⊎_elim
    (λ (before : touched.past < at + 1). absurd (omega (arith, is.upto, units_before periods touched.past at (omega (arith, before)), inside.kept, ordered)))
    (λ (from : at + 1 ≤ touched.past). ⊎_elim
    (λ (behind : at + 1 < touched.past).
    absurd (omega (arith, is.last (omega (arith, behind)), units_before periods (at + 1) (touched.past - 1) (omega (arith, behind)), inside.upto)))
    (λ (upto : touched.past ≤ at + 1). omega (arith, from, upto))
    (cases_lt (at + 1) touched.past))
    (cases_lt touched.past (at + 1)) in
    record {
      one = omega (arith, first, past);
      kept = rw (is.start_is, first) inside.kept;
      few = inside.few;
      spare = rw first inside.spare;
      none = inside.none;
    }
