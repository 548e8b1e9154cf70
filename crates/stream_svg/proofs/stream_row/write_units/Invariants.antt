use Rattle.std.proofs.Common.{take}
use Rattle.std.specs.List.{zip}
use Rattle.stream_svg.specs.Rows.{unit_text}
use Rattle.stream_svg.specs.Texts.{Grows, texts_of}
use Rattle.stream_svg.proofs.stream_row.write_units.Given as goal

abbrev pub invariant-loop-place : goal.invariant-loop-place
invariant-loop-place l =
    Grows l.initial.page.bytes.items l.page.bytes.items (texts_of (unit_text l.grid l.units) (take l.place (zip l.units l.captions)))
