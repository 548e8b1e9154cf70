-- What is kept of a stream in output order.
use Rattle.std.specs.Prelude.{◌≡◌, List, map}
use Rattle.request_core.specs.Fold.{outcomes_of}
use Rattle.request_core.specs.Agreement.{Stream}
use Rattle.stream_fold.specs.StoredStates.{FoldedValue}
use Rattle.output_order.specs.Shown.{shown_of}
use Rattle.output_order.specs.Periods.{PeriodValue, units_of}
use Rattle.output_order.specs.PeriodLists.{PeriodsValue}

-- the folded stream, and the periods of its units
pub record OrderedValue : Type 0 where
  pub folded : FoldedValue
  pub order : PeriodsValue

-- the periods are those of the stream's outcomes
abbrev pub AreOrdered : Stream → List PeriodValue → Type 0
AreOrdered stream periods = map shown_of (outcomes_of stream) ≡ units_of periods
