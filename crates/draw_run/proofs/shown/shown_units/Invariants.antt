use Rattle.std.proofs.Common.{◌≡◌, length, take}
use Rattle.draw_run.specs.Marks.{AreShownAs}
use Rattle.draw_run.proofs.shown.shown_units.Given as goal

abbrev pub invariant-loop-place : goal.invariant-loop-place
invariant-loop-place l = record {
  units : length l.shown.units.items ≡ l.place;
  captions : length l.shown.captions.items ≡ l.place;
  shown : AreShownAs l.session (take l.place l.ids) l.doubts l.shown.units.items l.shown.captions.items;
}
