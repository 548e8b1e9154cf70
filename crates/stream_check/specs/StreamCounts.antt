-- What is counted of a stream's units, by their outcomes.
use Rattle.std.specs.Prelude.{ℕ, ◌&&◌, not, Bool, true, false, List, [], ◌∷◌, length, count_by, map, max}
use Rattle.std.specs.List.{before_first, list_any, sum}
use Rattle.h264_controls.specs.declared.request.Request.{Request}
use Rattle.frame_requests.specs.FrameFlags.{is_b, is_p}
use Rattle.unit_outcomes.specs.declared.outcome.Outcome.{Outcome}
use Rattle.unit_outcomes.specs.declared.outcome.Outcome.TheVariants.{Plan, Fault, Empty}
use Rattle.unit_outcomes.specs.SeenUnits.{is_idr_picture}
use Rattle.unit_outcomes.specs.declared.doubts.walk.Doubt.{Doubt}
use Rattle.stream_check.specs.declared.counts.StreamCounts.{StreamCounts}
use Rattle.stream_check.specs.declared.counts.Which.{Which}
use Rattle.stream_check.specs.declared.counts.Which.TheVariants.{Intra, Predicted, Bipredicted, Idr, NoPicture, Period}
use Rattle.stream_check.specs.declared.counts.Which.TheVariants as kinds

-- whether it is valid and has a B slice
abbrev pub is_bipredicted : Outcome → Bool
is_bipredicted (Plan plan) = list_any is_b plan.requests
is_bipredicted (Fault _) = false
is_bipredicted Empty = false

-- whether it is valid and has a P slice and no B slice
abbrev pub is_predicted : Outcome → Bool
is_predicted (Plan plan) = list_any is_p plan.requests && not (list_any is_b plan.requests)
is_predicted (Fault _) = false
is_predicted Empty = false

-- whether it is valid and has neither
abbrev pub is_intra : Outcome → Bool
is_intra (Plan plan) = not (list_any is_p plan.requests) && not (list_any is_b plan.requests)
is_intra (Fault _) = false
is_intra Empty = false

-- whether it has a fault
abbrev pub has_fault : Outcome → Bool
has_fault (Plan _) = false
has_fault (Fault _) = true
has_fault Empty = false

-- whether it has no slice
abbrev pub has_no_picture : Outcome → Bool
has_no_picture (Plan _) = false
has_no_picture (Fault _) = false
has_no_picture Empty = true

-- whether it is valid
abbrev pub is_valid : Outcome → Bool
is_valid (Plan _) = true
is_valid (Fault _) = false
is_valid Empty = false

-- whether output order begins anew
abbrev pub begins_period : Outcome → Bool
begins_period (Plan plan) = plan.begins_period
begins_period (Fault _) = false
begins_period Empty = false

-- the slices of a valid picture
abbrev pub slices_of : Outcome → ℕ
slices_of (Plan plan) = length plan.requests
slices_of (Fault _) = 0
slices_of Empty = 0

-- the frames in the decoded picture buffer before slices
abbrev pub frames_before : List Request → ℕ
frames_before [] = 0
frames_before (request ∷ _) = length request.references

-- before a valid picture
abbrev pub frames_of : Outcome → ℕ
frames_of (Plan plan) = frames_before plan.requests
frames_of (Fault _) = 0
frames_of Empty = 0

-- the slices of valid pictures together
abbrev pub slices_in : List Outcome → ℕ
slices_in outcomes = sum (map slices_of outcomes)

-- the greatest of numbers; 0 of none
abbrev pub most_of : List ℕ → ℕ
most_of [] = 0
most_of (number ∷ numbers) = max number (most_of numbers)

-- the most frames in the decoded picture buffer before a picture
abbrev pub most_frames : List Outcome → ℕ
most_frames outcomes = most_of (map frames_of outcomes)

-- how many valid pictures there are before the next one with which output order begins anew
abbrev pub before_next : List Outcome → ℕ
before_next outcomes = count_by is_valid (before_first begins_period outcomes)

-- how many there are from each unit on, before the next such one behind it
abbrev pub period_lens : List Outcome → List ℕ
period_lens [] = []
period_lens (outcome ∷ outcomes) = count_by is_valid (outcome ∷ before_first begins_period outcomes) ∷ period_lens outcomes

-- the most valid pictures from one unit on before the next such one: those of the longest period
abbrev pub longest_period : List Outcome → ℕ
longest_period outcomes = most_of (period_lens outcomes)

-- whether a unit is so
abbrev pub is_so : Which → Outcome → Bool
is_so Intra outcome = is_intra outcome
is_so Predicted outcome = is_predicted outcome
is_so Bipredicted outcome = is_bipredicted outcome
is_so Idr outcome = is_idr_picture outcome
is_so kinds.Fault outcome = has_fault outcome
is_so NoPicture outcome = has_no_picture outcome
is_so Period outcome = begins_period outcome

-- how many units are so
abbrev pub counted : Which → List Outcome → ℕ
counted which outcomes = count_by (is_so which) outcomes

-- what is counted of units with these outcomes, of which this is told
abbrev pub counts_of : List Outcome → List Doubt → StreamCounts
counts_of outcomes told = record {
  units = length outcomes;
  intra = counted Intra outcomes;
  predicted = counted Predicted outcomes;
  bipredicted = counted Bipredicted outcomes;
  idr = counted Idr outcomes;
  slices = slices_in outcomes;
  faults = counted kinds.Fault outcomes;
  without_picture = counted NoPicture outcomes;
  periods = counted Period outcomes;
  longest_period = longest_period outcomes;
  most_frames = most_frames outcomes;
  in_doubt = count_by (λ doubt. doubt.in_doubt) told;
}
