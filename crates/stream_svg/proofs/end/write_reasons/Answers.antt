use Rattle.stream_svg.specs.Boxes.{stream_box}
use Rattle.stream_svg.specs.Rows.{reason_of}
use Rattle.stream_svg.proofs.Growing.{texts-next}
use Rattle.stream_svg.proofs.end.write_reasons.Goals as goal

pub loop-place-preserved : goal.loop-place-preserved
loop-place-preserved c =
    texts-next (λ place unit. reason_of (stream_box c.args.grid place) unit.kind) c.args.units.now c.loop-place.place
    c.index-units-place.result _ _ _ c.loop-place-test.true c.index-units-place.is c.loop-place.invariant
    (rw c.stream_box.ensures.value at c.in_ok-write_reason.ensures)
