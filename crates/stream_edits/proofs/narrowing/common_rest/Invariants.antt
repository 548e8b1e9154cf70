use Rattle.std.proofs.Common.{◌+◌, ◌≤◌, length}
use Rattle.stream_edits.specs.Common.{IsRest}
use Rattle.stream_edits.proofs.narrowing.common_rest.Given as goal

-- so many are the same, all of them behind the front
abbrev pub invariant-loop-count : goal.invariant-loop-count
invariant-loop-count l = IsRest l.old l.new l.count × (l.front + l.count ≤ length l.old) × (l.front + l.count ≤ length l.new)
