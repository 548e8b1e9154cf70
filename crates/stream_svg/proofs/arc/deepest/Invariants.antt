use Rattle.std.proofs.Common.{◌≤◌}
use Rattle.stream_svg.proofs.arc.deepest.Given as goal

abbrev pub invariant-loop-reference : goal.invariant-loop-reference
invariant-loop-reference l = l.depth ≤ 150
