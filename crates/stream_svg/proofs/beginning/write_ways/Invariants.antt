use Rattle.std.proofs.Common.{◌≡◌, take}
use Rattle.stream_svg.specs.Lines.{way_at}
use Rattle.stream_svg.specs.Texts.{Grows, texts_of}
use Rattle.stream_svg.proofs.beginning.write_ways.Given as goal

abbrev pub invariant-loop-shown : goal.invariant-loop-shown
invariant-loop-shown l = record {
  counted : l.slot ≡ l.shown-index;
  grown : Grows l.initial.page.bytes.items l.page.bytes.items (texts_of (way_at l.grid) (take l.shown-index l.row));
}
