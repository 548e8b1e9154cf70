use Rattle.std.proofs.Common.{take}
use Rattle.stream_svg.specs.Boxes.{stream_box}
use Rattle.stream_svg.specs.Rows.{reason_of}
use Rattle.stream_svg.specs.Texts.{Grows, texts_of}
use Rattle.stream_svg.proofs.end.write_reasons.Given as goal

abbrev pub invariant-loop-place : goal.invariant-loop-place
invariant-loop-place l = Grows l.initial.page.bytes.items l.page.bytes.items (texts_of (λ place unit. reason_of (stream_box l.grid place) unit.kind) (take l.place l.units))
