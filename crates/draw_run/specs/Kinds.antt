-- What a unit is drawn as: its slice types (7.4.3), its place in output order, its fault.
use Rattle.std.specs.Prelude.{ℕ, Bool, true, false, Option, List, unwrap_or}
use Rattle.std.specs.List.{list_any}
use Rattle.h264_types.specs.declared.slice_headers.slice_types.SliceType.{SliceType}
use Rattle.h264_types.specs.declared.slice_headers.slice_types.SliceType.TheVariants.{P, B, I, Sp, Si}
use Rattle.h264_controls.specs.declared.request.Request.{Request}
use Rattle.unit_outcomes.specs.declared.outcome.Outcome.{Outcome}
use Rattle.unit_outcomes.specs.declared.outcome.Outcome.TheVariants.{Plan, Fault, Empty}
use Rattle.unit_outcomes.specs.declared.outcome.Plan.{Plan as PlanValue}
use Rattle.stream_svg.specs.declared.unit.UnitKind.{UnitKind}
use Rattle.stream_svg.specs.declared.unit.UnitKind.TheVariants as kinds
use Rattle.stream_svg.specs.declared.unit.DrawnPicture.{DrawnPicture}
use Rattle.stream_svg.specs.declared.unit.SliceTypes.{SliceTypes}

-- slices of this type have no list
abbrev pub is_intra : SliceType → Bool
is_intra P = false
is_intra B = false
is_intra I = true
is_intra Sp = false
is_intra Si = true

-- they have list 0 alone
abbrev pub is_predicted : SliceType → Bool
is_predicted P = true
is_predicted B = false
is_predicted I = false
is_predicted Sp = true
is_predicted Si = false

-- they have both lists
abbrev pub is_bipredicted : SliceType → Bool
is_bipredicted P = false
is_bipredicted B = true
is_bipredicted I = false
is_bipredicted Sp = false
is_bipredicted Si = false

-- the type of a request's slice
abbrev pub type_of : Request → SliceType
type_of request = request.body.controls.slice_params.slice_type

-- which types the slices have
abbrev pub types_of : List Request → SliceTypes
types_of requests = record {
  intra = list_any (λ request. is_intra (type_of request)) requests;
  predicted = list_any (λ request. is_predicted (type_of request)) requests;
  bipredicted = list_any (λ request. is_bipredicted (type_of request)) requests;
}

-- what is drawn of a valid unit with this position in output order
abbrev pub picture_of : PlanValue → Option ℕ → DrawnPicture
picture_of plan position = record {
  types = types_of plan.requests;
  position = unwrap_or position 0;
  begins_period = plan.begins_period;
}

-- what a unit is drawn as
abbrev pub kind_of : Outcome → Option ℕ → UnitKind
kind_of (Plan plan) position = kinds.Picture (picture_of plan position)
kind_of (Fault fault) position = kinds.Fault fault
kind_of Empty position = kinds.Empty
