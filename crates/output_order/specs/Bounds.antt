-- How many valid units a period has, by the outcomes of the whole stream, and how many comparisons
-- a search among so many makes.
use Rattle.std.specs.Prelude.{ℕ, ◌+◌, ◌^◌, ◌<◌, ◌≤◌, ◌==◌, List, count_by}
use Rattle.unit_outcomes.specs.declared.outcome.Outcome.{Outcome}
use Rattle.output_order.specs.OutputOrder.{period_at, keys}

-- how many valid units there are in the period of the unit at a place
abbrev pub period_size : List Outcome → ℕ → ℕ
period_size outcomes place = count_by (λ key. key.period == period_at outcomes place) (keys outcomes)

-- the count of comparisons rises by those of a search by halves among so many units: by the
-- logarithm to base 2 of one more than their number, rounded down or up
pub record IsSearched (size old new : ℕ) : Type 0 where
  pub least : (steps : ℕ) → 2 ^ steps ≤ size + 1 → old + steps ≤ new
  pub most : (steps : ℕ) → size < 2 ^ steps → new ≤ old + steps
