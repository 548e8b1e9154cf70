use Rattle.std.proofs.Common.{take}
use Rattle.stream_svg.specs.Lines.{begin_at}
use Rattle.stream_svg.specs.Texts.{Grows, texts_of}
use Rattle.stream_svg.proofs.beginning.write_begins.Given as goal

abbrev pub invariant-loop-place : goal.invariant-loop-place
invariant-loop-place l = Grows l.initial.page.bytes.items l.page.bytes.items (texts_of (begin_at l.grid) (take l.place l.units))
