use Rattle.std.proofs.Common.{◌≡◌, map, max, drop}
use Rattle.stream_check.specs.StreamCounts.{frames_of, most_of}
use Rattle.stream_check.proofs.counts.most_frames.Given as goal

-- the most of those so far and of those that are left
abbrev pub invariant-loop-outcome : goal.invariant-loop-outcome
invariant-loop-outcome l = most_of (map frames_of l.outcomes) ≡ max l.most (most_of (map frames_of (drop l.outcome-index l.outcomes)))
