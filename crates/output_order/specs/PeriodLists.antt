-- The periods that are kept, and what a change makes of them.
use Rattle.std.specs.Prelude.{◌≡◌, ℕ, ◌+◌, ◌-◌, ◌<◌, ◌≤◌, ◌^◌, Option, Some, None, List, ◌++◌, Vec, All, length, map, take, drop, slice_index_or}
use Rattle.std.specs.Global.{Global}
use Rattle.std.specs.Vec.{vec_len, vec_capacity}
use Rattle.output_order.specs.declared.shown.Shown.{Shown}
use Rattle.output_order.specs.declared.counting.Count.{Count}
use Rattle.output_order.specs.declared.order_key.OrderKey.{OrderKey}
use Rattle.output_order.specs.OrderKeys.{AreInOrder}
use Rattle.output_order.specs.Periods.{PeriodValue, units_of, valid_in, ArePeriods, spliced}

-- the periods of a stream, and for how many more there is room
pub record PeriodsValue : Type 0 where
  pub periods : List PeriodValue
  pub spare : ℕ

-- these units between two places of a period
pub record InsideValue : Type 0 where
  pub low : ℕ
  pub high : ℕ
  pub units : List (Option Shown)

-- these periods in the place of those from the first up to the one past them; and, if at all, a
-- change inside the period before the first of those
pub record Change : Type 0 where
  pub inside : Option InsideValue
  pub first : ℕ
  pub past : ℕ
  pub periods : List PeriodValue

-- a period with a change inside it: it has room for fewer by those that it is longer by
abbrev pub changed_inside : InsideValue → PeriodValue → PeriodValue
changed_inside inside period = record {
  units = spliced inside.low inside.high inside.units period.units;
  spare = period.spare + (inside.high - inside.low) - length inside.units;
}

-- the periods with a change inside the last of them, if at all
abbrev pub last_changed : Option InsideValue → List PeriodValue → List PeriodValue
last_changed None periods = periods
last_changed (Some inside) periods = let last = length periods - 1 in take last periods ++ map (changed_inside inside) (drop last periods)

-- the periods after the change
abbrev pub changed : Change → List PeriodValue → List PeriodValue
changed change periods = last_changed change.inside (take change.first periods) ++ change.periods ++ drop change.past periods

-- a change can be made inside a period, which has room for what it becomes longer by
pub record FitsInside (inside : InsideValue) (period : PeriodValue) : Type 0 where
  pub ordered : inside.low ≤ inside.high
  pub within : inside.high ≤ length period.units
  pub spare : length inside.units ≤ period.spare + (inside.high - inside.low)

-- a change can be made inside the last of the periods, if it is one
abbrev pub FitsLast : Option InsideValue → List PeriodValue → Type 0
FitsLast None periods = Unit {0}
FitsLast (Some inside) periods = (0 < length periods) × All (FitsInside inside) (drop (length periods - 1) periods)

-- the change can be made of these periods
pub record IsChange (change : Change) (periods : List PeriodValue) : Type 0 where
  pub inside : FitsLast change.inside (take change.first periods)
  pub ordered : change.first ≤ change.past
  pub within : change.past ≤ length periods
  pub cut : ArePeriods (changed change periods)
  pub fits : length (units_of (changed change periods)) < 2 ^ 64

-- the change puts these units between two places
pub record IsSplice (change : Change) (periods : List PeriodValue) (low high : ℕ) (units : List (Option Shown)) : Type 0 where
  pub can : IsChange change periods
  pub does : units_of (changed change periods) ≡ spliced low high units (units_of periods)

-- how many units stand before a period, and how many of them are valid
abbrev pub count_at : List PeriodValue → ℕ → Count
count_at periods at = let before = units_of (take at periods) in record { start = length before; earlier = valid_in before }

-- so many of the periods are counted
pub record AreCounted (periods : List PeriodValue) (count : ℕ) (counts : List Count) : Type 0 where
  pub as_many : length counts ≡ count
  pub each : (at : ℕ) (d : Count) → at < count → slice_index_or counts at d ≡ count_at periods at

-- what a period keeps: its keys in output order, and room for more units and their keys
pub record IsPeriodSound (units : Vec (Option Shown) Global) (sorted : Vec OrderKey Global) (spare : ℕ) : Type 0 where
  pub order : AreInOrder units.items sorted.items
  pub units_fit : vec_len units + spare ≤ vec_capacity units
  pub keys_fit : vec_len units + spare ≤ vec_capacity sorted

-- what the type keeps: each period is counted, and there is room for more
pub record IsSound (periods : Vec PeriodValue Global) (counts : Vec Count Global) (spare : ℕ) : Type 0 where
  pub periods_are : ArePeriods periods.items
  pub counted : AreCounted periods.items (length periods.items) counts.items
  pub fits : length (units_of periods.items) < 2 ^ 64
  pub periods_fit : vec_len periods + spare ≤ vec_capacity periods
  pub counts_fit : vec_len counts + spare ≤ vec_capacity counts
