use Rattle.std.proofs.Common.{◌≡◌, take}
use Rattle.stream_svg.specs.Lines.{output_begin_at}
use Rattle.stream_svg.specs.Texts.{Grows, texts_of}
use Rattle.stream_svg.proofs.beginning.write_output_begins.Given as goal

abbrev pub invariant-loop-shown : goal.invariant-loop-shown
invariant-loop-shown l = record {
  counted : l.slot ≡ l.shown-index;
  grown : Grows l.initial.page.bytes.items l.page.bytes.items (texts_of (output_begin_at l.grid l.row) (take l.shown-index l.row));
}
