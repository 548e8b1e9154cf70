use Rattle.std.proofs.Common.{ap, sym, ◌∙◌, arith}
use Rattle.std.proofs.lemmas.Bool.{eqb-true}
use Rattle.stream_edits.specs.Streams.{place_among}
use Rattle.stream_edits.proofs.LastId.{found_at}
use Rattle.stream_edits.proofs.places.find_near.Goals as goal

pub returns-then-eq-clause-value : goal.returns-then-eq-clause-value
returns-then-eq-clause-value c =
    let ids = c.args.ids.now in
    let item = c.index-ids-at.result in
    let is = sym c.index-ids-at.is ∙ eqb-true item c.args.id (sym c.if-eq.ensures) in
    let min_is = c.min-to.ensures in
    found_at ids c.loop-at.at item (omega (arith, c.loop-at-test.true, min_is)) c.requires ∙ ap (place_among ids) is
