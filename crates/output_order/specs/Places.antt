-- The periods in which places of a stream lie.
use Rattle.std.specs.Prelude.{◌≡◌, ℕ, ◌+◌, ◌-◌, ◌<◌, ◌≤◌, false, Option, Some, List, [], All, length, take, slice_index_or}
use Rattle.output_order.specs.declared.shown.Shown.{Shown}
use Rattle.output_order.specs.declared.touching.Touched.{Touched}
use Rattle.output_order.specs.Shown.{begins_period}
use Rattle.output_order.specs.Periods.{PeriodValue, units_of}
use Rattle.output_order.specs.PeriodLists.{Change, count_at}

-- the unit at a place stands in this period
pub record IsFound (periods : List PeriodValue) (place at : ℕ) : Type 0 where
  pub inside : at < length periods
  pub from : (count_at periods at).start ≤ place
  pub below : (d : PeriodValue) → place < (count_at periods at).start + length (slice_index_or periods at d).units

-- these periods have all that stands between two places; the first has a unit before them, if it
-- isn't the stream's first, and no other one has; the last begins before the second place, if it
-- isn't the stream's first
pub record IsTouched (periods : List PeriodValue) (low high : ℕ) (touched : Touched) : Type 0 where
  pub ordered : touched.first ≤ touched.past
  pub within : touched.past ≤ length periods
  pub start_is : touched.start ≡ length (units_of (take touched.first periods))
  pub from : touched.start ≤ low
  pub upto : high ≤ length (units_of (take touched.past periods))
  pub some : 0 < length periods → 0 < touched.past
  pub inner : 0 < touched.first → touched.start < low
  pub next : touched.first + 1 < length periods → low ≤ length (units_of (take (touched.first + 1) periods))
  pub last : 1 < touched.past → length (units_of (take (touched.past - 1) periods)) < high

-- these units can take the place of those between two places inside a period: it keeps its first
-- unit, none of them begins a period, they are few, and it has room for them
pub record IsInside (periods : List PeriodValue) (at low high : ℕ) (units : List (Option Shown)) : Type 0 where
  pub within : at < length periods
  pub kept : length (units_of (take at periods)) < low
  pub upto : high ≤ length (units_of (take (at + 1) periods))
  pub few : length units ≤ 32
  pub spare : (d : PeriodValue) → length units ≤ (slice_index_or periods at d).spare + (high - low)
  pub none : All (λ unit. begins_period unit ≡ false) units

-- so they can inside the one period that is touched
pub record IsTouchedInside (periods : List PeriodValue) (touched : Touched) (low high : ℕ) (units : List (Option Shown)) : Type 0 where
  pub one : touched.past ≡ touched.first + 1
  pub kept : touched.start < low
  pub few : length units ≤ 32
  pub spare : (d : PeriodValue) → length units ≤ (slice_index_or periods touched.first d).spare + (high - low)
  pub none : All (λ unit. begins_period unit ≡ false) units

-- that change
abbrev pub change_inside : Touched → ℕ → ℕ → List (Option Shown) → Change
change_inside touched low high units = record {
  inside = Some (record { low = low - touched.start; high = high - touched.start; units = units });
  first = touched.past;
  past = touched.past;
  periods = [];
}
