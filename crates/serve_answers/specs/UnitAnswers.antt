-- A unit's outcome, as a result (docs/SERVER.md).
use Rattle.std.specs.Prelude.{ℕ, Bool, true, false, Option, None, Some, List, map}
use Rattle.std.specs.Option.{unwrap_or}
use Rattle.unit_outcomes.specs.declared.outcome.Outcome.{Outcome}
use Rattle.unit_outcomes.specs.declared.outcome.Outcome.TheVariants as outcomes
use Rattle.unit_outcomes.specs.declared.outcome.Plan.{Plan as PlanValue}
use Rattle.unit_printing.specs.JsonLines.{head_json, unit_line}
use Rattle.unit_printing.specs.RequestsJson.{request_json}
use Rattle.unit_printing.specs.declared.json.encoding.DecodeMode.TheVariants.{SliceBased}
use Rattle.unit_printing.specs.declared.json.request_json.RequestJson.{RequestJson}
use Rattle.serve_answers.specs.declared.unit_answers.PlanAnswer.{PlanAnswer}
use Rattle.serve_answers.specs.declared.unit_answers.UnitFlags.{UnitFlags}
use Rattle.serve_answers.specs.declared.unit_answers.UnitAnswer.{UnitAnswer}
use Rattle.serve_answers.specs.declared.unit_answers.UnitAnswer.TheVariants.{Plan, Line}

-- the requests of a plan, if they are told
abbrev pub requests_if : Bool → PlanValue → Option (List RequestJson)
requests_if true plan = Some (map request_json plan.requests)
requests_if false plan = None

-- the plan of a unit, of which this is told, with its requests or without
abbrev pub plan_answer : ℕ → ℕ → PlanValue → UnitFlags → Bool → PlanAnswer
plan_answer id position plan told controls = record {
  head = head_json id position plan told.doubt;
  altered = told.altered;
  requests = requests_if controls plan;
}

-- the outcome of a unit, of which this is told; of one that isn't valid, as a line
abbrev pub unit_answer : ℕ → Option ℕ → Outcome → UnitFlags → Bool → UnitAnswer
unit_answer id position (outcomes.Plan plan) told controls =
    Plan (plan_answer id (unwrap_or position 0) plan told controls)
unit_answer id position (outcomes.Fault fault) told controls =
    Line (unit_line SliceBased id position (outcomes.Fault fault) told.doubt)
unit_answer id position outcomes.Empty told controls = Line (unit_line SliceBased id position outcomes.Empty told.doubt)
