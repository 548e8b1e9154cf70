-- The units of a stream by periods: each begins with the unit that begins it, but for the first
-- (ITU-T H.264, 8.2.1).
use Rattle.std.specs.Prelude.{◌≡◌, ℕ, false, true, Option, List, [], ◌∷◌, ◌++◌, All, take, drop, is_some, count_by}
use Rattle.std.specs.List.{flat_map}
use Rattle.output_order.specs.declared.shown.Shown.{Shown}
use Rattle.output_order.specs.Shown.{begins_period}

-- what is kept of a period: its units, and for how many more there is room
pub record PeriodValue : Type 0 where
  pub units : List (Option Shown)
  pub spare : ℕ

-- the units of the periods, one period after the other
abbrev pub units_of : List PeriodValue → List (Option Shown)
units_of periods = flat_map (λ period. period.units) periods

-- how many units are valid
abbrev pub valid_in : List (Option Shown) → ℕ
valid_in units = count_by is_some units

-- one unit or more, of which none after the first begins a period
abbrev pub IsPeriod : List (Option Shown) → Type 0
IsPeriod [] = ⊥
IsPeriod (first ∷ rest) = All (λ unit. begins_period unit ≡ false) rest

-- the first of the units, if there are any, begins a period
abbrev pub IsBegun : List (Option Shown) → Type 0
IsBegun [] = Unit {0}
IsBegun (first ∷ rest) = begins_period first ≡ true

-- the periods of a stream
pub record ArePeriods (periods : List PeriodValue) : Type 0 where
  pub each : All (λ period. IsPeriod period.units) periods
  pub later : All (λ period. IsBegun period.units) (drop 1 periods)

-- units with those between two places replaced
abbrev pub spliced : ℕ → ℕ → List (Option Shown) → List (Option Shown) → List (Option Shown)
spliced low high between units = take low units ++ between ++ drop high units
