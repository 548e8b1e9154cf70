use Rattle.std.proofs.Common.{◌≡◌, max, drop}
use Rattle.stream_check.specs.Spans.{longest}
use Rattle.stream_check.proofs.spans.longest.Given as goal

-- the longest of those so far and of those that are left
abbrev pub invariant-loop-place : goal.invariant-loop-place
invariant-loop-place l = longest l.spans ≡ max l.longest (longest (drop l.place-index l.spans))
