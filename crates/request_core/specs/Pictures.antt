-- A picture before requests are made, and its plan as a function of it.
use Rattle.std.specs.Prelude.{ℕ, ℤ, Bool, List}
use Rattle.unit_outcomes.specs.declared.outcome.Plan.{Plan}
use Rattle.h264_types.specs.declared.pictures.counts.Counts.{Counts}
use Rattle.h264_types.specs.declared.pictures.frames.Frame.{Frame}
use Rattle.request_core.specs.Requests.{ListedSlice, requests_of}

-- a picture of the unit of an id: the frames that were marked before it, its counts, its place in
-- output order, and its slices with their lists
pub record Pictured : Type 0 where
  pub id : ℕ
  pub frames : List Frame
  pub counts : Counts
  pub order : ℤ
  pub begins_period : Bool
  pub slices : List ListedSlice

-- its plan
abbrev pub plan_in : Pictured → Plan
plan_in picture = record {
  requests = requests_of picture.frames picture.counts picture.id picture.slices;
  counts = picture.counts;
  order = picture.order;
  begins_period = picture.begins_period;
}
