use Rattle.std.proofs.Common.{sym}
use Rattle.std.proofs.lemmas.Bool.{eqb-true}
use Rattle.stream_edits.proofs.LastId.{last_among}
use Rattle.edit_history.proofs.undo_redo.places.place_of.Goals as goal

pub returns-in-Some-clause-value : goal.returns-in-Some-clause-value
returns-in-Some-clause-value c = λ different.
    let ids_are = c.in-Some.ensures.cases.0 in
    let last_is = eqb-true c.in-Some.last.now c.args.id (sym c.if-eq.ensures) in
    rw (ids_are, ← last_is) (last_among c.in-Some.others.now c.in-Some.last.now (rw ids_are at different))
