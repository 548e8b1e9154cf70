use Rattle.stream_svg.proofs.ShownUnits.{AreShownBefore}
use Rattle.stream_svg.proofs.output_row.shown_units.Given as goal

abbrev pub invariant-loop-place : goal.invariant-loop-place
invariant-loop-place l = AreShownBefore l.units l.place l.period l.row.items
