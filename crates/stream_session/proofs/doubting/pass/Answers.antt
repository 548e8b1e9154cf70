use Rattle.std.proofs.Common.{length, refl, arith}
use Rattle.std.proofs.lemmas.Option.{slice_get_read}
use Rattle.unit_outcomes.specs.References.{is_of_reference}
use Rattle.stream_session.specs.Doubting.{seen_with}
use Rattle.stream_session.proofs.InColumns.{stream_at}
use Rattle.stream_session.proofs.doubting.pass.Goals as goal

pub returns : goal.returns
returns c =
    let stream = c.args.units.now in
    let outcomes = c.args.outcomes.now in
    let at = c.args.at in
    c.in_ok-next.ensures (seen_with stream outcomes) at (is_of_reference c.index-units-at.result.1) c.requires.differ
    (rw (c.deref-outcome.ensures, c.deref.ensures)
    (stream_at stream outcomes at c.index-units-at.result c.index-outcomes-at.result
    (slice_get_read stream (length stream) at c.index-units-at.result refl c.requires.within c.index-units-at.is)
    (slice_get_read outcomes (length outcomes) at c.index-outcomes-at.result refl (omega (arith, c.requires.same, c.requires.within))
    c.index-outcomes-at.is)))
    (rw (c.breaks.ensures, c.deref-2.ensures) refl)
    c.requires.before
