use Rattle.std.proofs.Common.{◌+◌, cond, ap, sym, ◌∙◌}
use Rattle.stream_svg.specs.OutputRow.{begins_period, position_of}
use Rattle.stream_svg.proofs.ShownUnits.{AreShownBefore-picture, AreShownBefore-without, begins-without, bool_is, position-without}
use Rattle.stream_svg.proofs.output_row.shown_units.Goals as goal

pub loop-place-preserved-in_default : goal.loop-place-preserved-in_default
loop-place-preserved-in_default c =
    let loop = c.loop-place in
    let unit = c.index-units-place.result in
    AreShownBefore-without _ loop.place loop.period loop.row.items loop.invariant
    unit c.loop-place-test.true c.index-units-place.is
    (position-without unit.kind c.in_default.not-Picture) (begins-without unit.kind c.in_default.not-Picture)

pub loop-place-preserved : goal.loop-place-preserved
loop-place-preserved c =
    let loop = c.loop-place in
    let unit = c.index-units-place.result in
    let picture = c.in-Picture.picture in
    let begun = c.from-period.ensures ∙ bool_is picture.begins_period
    ∙ ap (λ kind. cond (begins_period kind) 1 0) (sym c.in-Picture.is) in
    rw c.in_ok-push.ensures.items (AreShownBefore-picture _ loop.place loop.period loop.row.items loop.invariant
    unit c.loop-place-test.true c.index-units-place.is
    picture.position (loop.period + c.from-period.result) (ap position_of c.in-Picture.is) (ap (λ more. loop.period + more) begun))
