-- A change of a stream in output order that is prepared.
use Rattle.std.specs.Prelude.{◌≤◌, length}
use Rattle.stream_edits.specs.Changes.{stream_after}
use Rattle.stream_fold.specs.Prepared as folding
use Rattle.output_order.specs.PeriodLists.{IsChange, changed}
use Rattle.stream_fold.specs.declared.ordered.PreparedChange.{PreparedChange}
use Rattle.stream_fold.specs.Ordered.{OrderedValue, AreOrdered}

-- the change of the fold is prepared, and that of the periods makes them those of the changed
-- stream, and has room
pub record IsPrepared (ordered : OrderedValue) (prepared : PreparedChange) : Type 0 where
  pub refolded : folding.IsPrepared ordered.folded prepared.refolded
  pub can : IsChange prepared.splice ordered.order.periods
  pub spare : length prepared.splice.periods ≤ ordered.order.spare
  pub does : AreOrdered (stream_after (folding.change_in prepared.refolded) ordered.folded.stream)
      (changed prepared.splice ordered.order.periods)
