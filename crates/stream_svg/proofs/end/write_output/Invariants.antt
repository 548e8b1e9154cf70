use Rattle.std.proofs.Common.{◌≡◌, take, slice_get}
use Rattle.stream_svg.specs.Rows.{shown_unit}
use Rattle.stream_svg.specs.Texts.{Grows, texts_of}
use Rattle.stream_svg.proofs.end.write_output.Given as goal

abbrev pub invariant-loop-shown : goal.invariant-loop-shown
invariant-loop-shown l = record {
  counted : l.slot ≡ l.shown-index;
  grown : Grows l.initial.page.bytes.items l.page.bytes.items (texts_of (λ slot shown. shown_unit l.grid slot shown (slice_get l.units shown.place)) (take l.shown-index l.row));
}
