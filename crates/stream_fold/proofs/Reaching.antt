-- Where a fold has come in front of a change, when the change is made.
use Rattle.std.proofs.Common.{length, Option, None, Some, ap, sym, ◌∙◌, arith}
use Rattle.request_core.specs.States.{no_units}
use Rattle.request_core.specs.Agreement.{Stream, state_from}
use Rattle.stream_edits.specs.declared.changes.Change.{Change}
use Rattle.stream_edits.specs.Changes.{IsInside, at_of, stream_after}
use Rattle.stream_fold.specs.declared.refold.ResumePoint.{ResumePoint}
use Rattle.stream_fold.specs.StoredStates.{IsResumePoint}
use Rattle.stream_fold.proofs.Changed.{length_after, place_is, rest_inside, take_before}

-- in front of the change the stream stays, and so does the state there
pub resume_point_after : (change : Change) (stream : Stream) → IsInside change stream → (resume_point : Option ResumePoint)
    → IsResumePoint stream (at_of change) resume_point
    → IsResumePoint (stream_after change stream) (length (stream_after change stream)) resume_point
resume_point_after change stream inside None is = tt
resume_point_after change stream inside (Some resume_point) is = (
  omega (
    arith,
    is.0,
    length_after change stream inside,
    place_is change (length stream) (rest_inside change stream inside),
  ),
  is.1 ∙ ap (λ (units : Stream). state_from no_units units) (sym (take_before change stream inside resume_point.place is.0)),
)
