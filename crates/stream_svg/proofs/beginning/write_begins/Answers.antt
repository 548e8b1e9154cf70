use Rattle.stream_svg.specs.Lines.{begin_at}
use Rattle.stream_svg.proofs.Growing.{texts-next}
use Rattle.stream_svg.proofs.beginning.write_begins.Goals as goal

pub loop-place-preserved : goal.loop-place-preserved
loop-place-preserved c =
    texts-next (begin_at c.args.grid) c.args.units.now c.loop-place.place c.index-units-place.result _ _ _ c.loop-place-test.true
    c.index-units-place.is c.loop-place.invariant c.in_ok-write_begin_at.ensures
