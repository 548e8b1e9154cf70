use Rattle.std.proofs.Common.{take}
use Rattle.stream_svg.specs.Arcs.{arc_of, arc_text}
use Rattle.stream_svg.specs.Texts.{Grows, texts_of}
use Rattle.stream_svg.proofs.stream_row.write_arcs.Given as goal

abbrev pub invariant-loop-reference : goal.invariant-loop-reference
invariant-loop-reference l =
    Grows l.initial.page.bytes.items l.page.bytes.items
    (texts_of (λ at reference. arc_text (arc_of l.grid l.units l.place reference)) (take l.reference-index l.references))
