-- What is found of a unit before requests are made, and its outcome as a function of it.
use Rattle.unit_outcomes.specs.declared.outcome.Outcome.{Outcome}
use Rattle.unit_outcomes.specs.declared.outcome.Outcome.TheVariants as outcomes
use Rattle.request_core.specs.declared.picture.StepResult.{StepResult}
use Rattle.request_core.specs.declared.picture.StepResult.TheVariants as step_results
use Rattle.request_core.specs.Pictures.{plan_in}
use Rattle.request_core.specs.States.{FoldState}

-- the outcome of a unit
abbrev pub outcome_in : StepResult → Outcome
outcome_in (step_results.Picture picture) = outcomes.Plan (plan_in picture)
outcome_in (step_results.Fault fault) = outcomes.Fault fault
outcome_in step_results.Empty = outcomes.Empty

-- a step of the fold by what is found: the state after a unit, and the unit's outcome
abbrev pub step_in : FoldState × StepResult → FoldState × Outcome
step_in step = (step.0, outcome_in step.1)
