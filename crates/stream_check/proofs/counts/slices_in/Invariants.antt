use Rattle.std.proofs.Common.{◌≡◌, map, take}
use Rattle.std.specs.List.{sum}
use Rattle.stream_check.specs.StreamCounts.{slices_of}
use Rattle.stream_check.proofs.counts.slices_in.Given as goal

-- those so far
abbrev pub invariant-loop-outcome : goal.invariant-loop-outcome
invariant-loop-outcome l = l.slices ≡ sum (map slices_of (take l.outcome-index l.outcomes))
