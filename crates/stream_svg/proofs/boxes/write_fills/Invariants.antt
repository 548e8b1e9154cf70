use Rattle.std.proofs.Common.{◌≡◌, take, length}
use Rattle.stream_svg.specs.Shapes.{fill_text}
use Rattle.stream_svg.specs.Texts.{Grows, texts_of}
use Rattle.stream_svg.proofs.boxes.write_fills.Given as goal

abbrev pub invariant-loop-letter : goal.invariant-loop-letter
invariant-loop-letter l = record {
  counted : l.place ≡ l.letter-index;
  grown : Grows l.initial.page.bytes.items l.page.bytes.items (texts_of (fill_text l.area (length l.letters)) (take l.letter-index l.letters));
}
