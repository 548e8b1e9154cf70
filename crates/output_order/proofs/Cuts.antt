-- A list of units cut into periods, from its front on.
use Rattle.std.proofs.Common.{◌≡◌, ℕ, suc, ◌+◌, ◌-◌, ◌<◌, ◌≤◌, ⊎_elim, true, false, Option, List, [], ◌∷◌, ◌++◌, length, take, drop, get_or, sym, ap, subst, ◌∙◌, arith}
use Rattle.std.proofs.lemmas.Bool.{cases_lt}
use Rattle.std.proofs.lemmas.List.{append-nil, take-append-drop, take-take, get_or-take, get_or-drop, length-take-le, length-drop, drop-take, take_all}
use Rattle.std.proofs.lemmas.List.Elements.{All-nil, All-push}
use Rattle.std.specs.List.{AllWithin, HoldsAt, slice_range}
use Rattle.output_order.specs.declared.shown.Shown.{Shown}
use Rattle.output_order.specs.Shown.{begins_period}
use Rattle.output_order.specs.Periods.{PeriodValue, units_of, IsPeriod, IsBegun, ArePeriods}
use Rattle.output_order.proofs.Starts.{units_of-append}

-- the units before `start` are cut, and of those from there up to a place none begins a period but
-- the first
pub record IsCutUpTo (units : List (Option Shown)) (start at : ℕ) (periods : List PeriodValue) : Type 0 where
  pub ordered : start ≤ at
  pub units_are : units_of periods ≡ take start units
  pub periods_are : ArePeriods periods
  pub inside : AllWithin (λ unit. begins_period unit ≡ false) units (start + 1) at
  pub begins : 0 < length periods → HoldsAt (λ unit. begins_period unit ≡ true) units start

-- a list of units is a period, by its places
pub IsPeriod-from : (units : List (Option Shown)) → 0 < length units → AllWithin (λ unit. begins_period unit ≡ false) units 1 (length units) → IsPeriod units
IsPeriod-from [] some none = absurd (omega arith)
IsPeriod-from (first ∷ rest) some none = λ k d below. none (suc k) d (omega arith) (omega arith)

pub IsBegun-from : (units : List (Option Shown)) → HoldsAt (λ unit. begins_period unit ≡ true) units 0 → IsBegun units
IsBegun-from [] begins = tt
IsBegun-from (first ∷ rest) begins = begins first

-- a period more
pub ArePeriods-push : (periods : List PeriodValue) (period : PeriodValue) → ArePeriods periods → IsPeriod period.units → (0 < length periods → IsBegun period.units)
    → ArePeriods (periods ++ period ∷ [])
ArePeriods-push [] period are is begun = record { each = All-push (λ one. IsPeriod one.units) [] period (All-nil (λ one. IsPeriod one.units)) is; later = All-nil (λ one. IsBegun one.units) }
ArePeriods-push (first ∷ rest) period are is begun = record {
  each = All-push (λ one. IsPeriod one.units) (first ∷ rest) period are.each is;
  later = All-push (λ one. IsBegun one.units) rest period are.later (begun (omega arith));
}

module _ (units : List (Option Shown)) (start at : ℕ) (periods : List PeriodValue) (cut : IsCutUpTo units start at periods) (some : start < at) (within : at ≤ length units) where
  abbrev last : List (Option Shown)
  last = slice_range units start at

  long : length last ≡ at - start
  long = length-take-le (at - start) (drop start units) (omega (arith, length-drop start units))

  element : (k : ℕ) (d : Option Shown) → k < at - start → get_or last k d ≡ get_or units (start + k) d
  element k d below = get_or-take (at - start) (drop start units) k d below ∙ get_or-drop start units k d

  IsPeriod-last : IsPeriod last
  IsPeriod-last = IsPeriod-from last (omega (arith, long)) (λ k d from below. ap begins_period (element k d (omega (arith, long))) ∙ cut.inside (start + k) d (omega arith) (omega (arith, long)))

  IsBegun-last : 0 < length periods → IsBegun last
  IsBegun-last more = IsBegun-from last (λ d. ap begins_period (element 0 d (omega arith)) ∙ ap (λ place. begins_period (get_or units place d)) (let same : start + 0 ≡ start = omega arith in same) ∙ cut.begins more d)

  abbrev more : ℕ → List PeriodValue
  more spare = periods ++ record { units = last; spare = spare } ∷ []

  pub periods_more : (spare : ℕ) → ArePeriods (more spare)
  periods_more spare = ArePeriods-push periods (record { units = last; spare = spare }) cut.periods_are IsPeriod-last IsBegun-last

  pub units_more : (spare : ℕ) → units_of (more spare) ≡ take at units
  units_more spare =
      let front : take start (take at units) ≡ take start units = take-take start at units cut.ordered in
      let sum : start + (at - start) ≡ at = omega (arith, cut.ordered) in
      let back : drop start (take at units) ≡ last = ap (λ n. drop start (take n units)) (sym sum) ∙ drop-take start (at - start) units in
      units_of-append periods (record { units = last; spare = spare } ∷ []) ∙ ap (λ rest. units_of periods ++ rest) (append-nil last) ∙ ap (λ all. all ++ last) (cut.units_are ∙ sym front)
      ∙ ap (λ all. take start (take at units) ++ all) (sym back) ∙ take-append-drop start (take at units)

  -- a period ends at the place, where a unit begins the next
  pub IsCutUpTo-period : ((d : Option Shown) → begins_period (get_or units at d) ≡ true) → (spare : ℕ) → IsCutUpTo units at (at + 1) (more spare)
  IsCutUpTo-period begins spare = record {
    ordered = omega arith;
    units_are = units_more spare;
    periods_are = periods_more spare;
    inside = λ k d from below. absurd (omega arith);
    begins = λ _ d. begins d;
  }

-- no period ends at the place
pub IsCutUpTo-on : (units : List (Option Shown)) (start at : ℕ) (periods : List PeriodValue) → IsCutUpTo units start at periods
    → ((d : Option Shown) → start < at → begins_period (get_or units at d) ≡ false) → IsCutUpTo units start (at + 1) periods
IsCutUpTo-on units start at periods cut none = record {
  ordered = omega (arith, cut.ordered);
  units_are = cut.units_are;
  periods_are = cut.periods_are;
  inside = λ k d from below. within k d from below;
  begins = cut.begins;
}
  where
    within : (k : ℕ) (d : Option Shown) → start + 1 ≤ k → k < at + 1 → begins_period (get_or units k d) ≡ false
    within k d from below = ⊎_elim
        (λ earlier. cut.inside k d from earlier)
        (λ last. let here : k ≡ at = omega arith in ap (λ place. begins_period (get_or units place d)) here ∙ none d (omega arith))
        (cases_lt k at)

-- the last period goes up to the end
module _ (units : List (Option Shown)) (start at : ℕ) (periods : List PeriodValue) (cut : IsCutUpTo units start at periods) (end : length units ≡ at) where
  cut_all : IsCutUpTo units start (length units) periods
  cut_all = subst (λ n. IsCutUpTo units start n periods) (sym end) cut

  pub periods_last : (spare : ℕ) → start < length units → ArePeriods (periods ++ record { units = slice_range units start (length units); spare = spare } ∷ [])
  periods_last spare some = periods_more units start (length units) periods cut_all some (omega arith) spare

  pub units_last : (spare : ℕ) → start < length units → units_of (periods ++ record { units = slice_range units start (length units); spare = spare } ∷ []) ≡ units
  units_last spare some = units_more units start (length units) periods cut_all some (omega arith) spare ∙ take_all (length units) units (omega arith)

  pub units_all : length units ≤ start → units_of periods ≡ units
  units_all none = cut.units_are ∙ take_all start units none
