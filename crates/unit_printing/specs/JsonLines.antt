-- The JSON object of a line (docs/OUTPUT.md).
use Rattle.std.specs.Prelude.{ℕ, true, Option, map, option_map}
use Rattle.std.specs.Option.{unwrap_or}
use Rattle.access_unit.specs.declared.stream_units.Refusal.{Refusal}
use Rattle.unit_outcomes.specs.declared.doubts.walk.Doubt.{Doubt}
use Rattle.frame_requests.specs.FrameRequests.{frame_request}
use Rattle.unit_outcomes.specs.declared.outcome.Outcome.{Outcome}
use Rattle.unit_outcomes.specs.declared.outcome.Outcome.TheVariants as outcomes
use Rattle.unit_outcomes.specs.declared.outcome.Plan.{Plan as PlanValue}
use Rattle.h264_types.specs.declared.pictures.counts.Counts.{Counts}
use Rattle.unit_printing.specs.RequestsJson.{request_json}
use Rattle.unit_printing.specs.FramesJson.{frame_json}
use Rattle.unit_printing.specs.declared.json.encoding.DecodeMode.{DecodeMode}
use Rattle.unit_printing.specs.declared.json.encoding.DecodeMode.TheVariants.{SliceBased, FrameBased}
use Rattle.unit_printing.specs.declared.json.json_line.CountsJson.{CountsJson}
use Rattle.unit_printing.specs.declared.json.json_line.HeadJson.{HeadJson}
use Rattle.unit_printing.specs.declared.json.json_line.JsonLine.{JsonLine}
use Rattle.unit_printing.specs.declared.json.json_line.JsonLine.TheVariants.{Plan, Frame, Fault, NoPicture, NoUnit, Refused}

abbrev pub counts_json : Counts → CountsJson
counts_json counts = record { top = counts.top; bottom = counts.bottom }

-- what a plan has before its requests: the unit's id and position, and what is told of it
abbrev pub head_json : ℕ → ℕ → PlanValue → Doubt → HeadJson
head_json id position plan doubt = record {
  unit = id;
  position = position;
  begins_period = plan.begins_period;
  counts = counts_json plan.counts;
  follows = doubt.follows;
  in_doubt = doubt.in_doubt;
}

-- the line of a plan: with the requests of its slices, or with that of its picture
abbrev pub plan_line : DecodeMode → HeadJson → PlanValue → JsonLine
plan_line SliceBased head plan = Plan (record { head = head; requests = map request_json plan.requests })
plan_line FrameBased head plan = Frame (record {
  head = head;
  request = option_map (frame_json plan.requests) (frame_request plan.requests);
})

-- the line of a unit's outcome, of which this is told
abbrev pub unit_line : DecodeMode → ℕ → Option ℕ → Outcome → Doubt → JsonLine
unit_line mode id position (outcomes.Plan plan) doubt =
    plan_line mode (head_json id (unwrap_or position 0) plan doubt) plan
unit_line mode id position (outcomes.Fault fault) doubt = Fault id fault doubt.follows
unit_line mode id position outcomes.Empty doubt = NoPicture id true doubt.follows

-- the line of a unit that isn't there
abbrev pub no_unit_line : ℕ → JsonLine
no_unit_line number = NoUnit number true

-- the line of a refused stream
abbrev pub refused_line : Refusal → JsonLine
refused_line refusal = Refused refusal
