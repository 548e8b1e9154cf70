use Rattle.std.proofs.Common.{◌≤◌}
use Rattle.stream_svg.proofs.arc.band_of.Given as goal

abbrev pub invariant-loop-place : goal.invariant-loop-place
invariant-loop-place l = l.depth ≤ 150
