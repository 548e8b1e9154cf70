use Rattle.std.proofs.Common.{◌≡◌, take}
use Rattle.stream_fold.proofs.storing.shares_of.Given as goal

-- the outcomes so far
abbrev pub invariant-loop-outcome : goal.invariant-loop-outcome
invariant-loop-outcome l = l.shares.items ≡ take l.outcome-index l.outcomes
