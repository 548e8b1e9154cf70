use Rattle.stream_svg.specs.Arcs.{arc_of, arc_text}
use Rattle.stream_svg.proofs.Growing.{texts-next}
use Rattle.stream_svg.proofs.stream_row.write_arcs.Goals as goal

pub loop-reference-preserved : goal.loop-reference-preserved
loop-reference-preserved c =
    texts-next (λ at reference. arc_text (arc_of c.args.grid c.args.units.now c.args.place reference)) c.args.references.now
    c.loop-reference.reference-index c.reference-item.result _ _ _ c.loop-reference-test.true c.reference-item.is
    c.loop-reference.invariant c.in_ok-write_reference.ensures
