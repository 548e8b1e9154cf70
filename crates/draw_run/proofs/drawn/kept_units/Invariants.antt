use Rattle.std.proofs.Common.{take}
use Rattle.draw_run.specs.Shown.{AreShown}
use Rattle.draw_run.proofs.drawn.kept_units.Given as goal

abbrev pub invariant-loop-one : goal.invariant-loop-one
invariant-loop-one l =
    AreShown l.positions l.doubts (take l.one-index l.kept) l.shown.units.items l.shown.captions.items
