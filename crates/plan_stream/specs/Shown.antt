-- What is kept of a unit's outcome.
use Rattle.std.specs.Prelude.{[]}
use Rattle.unit_outcomes.specs.declared.outcome.Outcome.{Outcome}
use Rattle.unit_outcomes.specs.declared.outcome.Outcome.TheVariants as outcomes

-- a unit's outcome, without its requests
abbrev pub shown_of : Outcome → Outcome
shown_of (outcomes.Plan plan) = outcomes.Plan (record plan { requests = [] })
shown_of (outcomes.Fault fault) = outcomes.Fault fault
shown_of outcomes.Empty = outcomes.Empty
