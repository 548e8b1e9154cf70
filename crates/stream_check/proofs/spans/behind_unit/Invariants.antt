use Rattle.std.proofs.Common.{◌≤◌, length}
use Rattle.stream_check.proofs.spans.behind_unit.Given as goal

-- what is left is no more than the text
abbrev pub invariant-units : goal.invariant-units
invariant-units l = length l.rest ≤ length l.text
