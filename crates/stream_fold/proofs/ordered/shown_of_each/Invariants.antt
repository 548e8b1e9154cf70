use Rattle.std.proofs.Common.{◌≡◌, map, take}
use Rattle.output_order.specs.Shown.{shown_of}
use Rattle.stream_fold.proofs.ordered.shown_of_each.Given as goal

abbrev pub invariant-loop-outcome : goal.invariant-loop-outcome
invariant-loop-outcome l = l.shown.items ≡ map shown_of (take l.outcome-index l.outcomes)
