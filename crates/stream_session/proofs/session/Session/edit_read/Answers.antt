use Rattle.std.proofs.Common.{◌≡◌, ◌∷◌, [], length, arith}
use Rattle.stream_edits.proofs.Grouped.{MakesAll-one}
use Rattle.stream_session.proofs.Looked.{ids_apart}
use Rattle.stream_session.proofs.Moved.{Edits-moved}
use Rattle.stream_session.proofs.session.Session.edit_read.Goals as goal

pub change_of-requires-clause-ids : goal.change_of-requires-clause-ids
change_of-requires-clause-ids g c = rw (c.ids-ids.ensures, c.units-units.ensures) c.self.invariant.identified

pub change_of-requires-clause-different : goal.change_of-requires-clause-different
change_of-requires-clause-different g c =
    let s = c.self.inside in
    rw c.ids-ids.ensures
    (ids_apart (record { origin = s.origin; entries = s.journal.items }) (record { ids_given = s.ids_given; stream = s.ordered.folded.stream }) s.store c.self.invariant)

pub make-requires-clause-come : goal.make-requires-clause-come
make-requires-clause-come g c =
    let s = c.self.inside in
    let accepted = c.in_ok-accepted.accepted in
    let for = rw (c.units-units.ensures) at c.in_ok-accepted.ensures.ok in
    rw (← c.self.view_is, c.of_edit-entry.ensures, c.into_edit.ensures) (
      accepted.id ∷ [],
      MakesAll-one (record { ids_given = s.ids_given; stream = s.ordered.folded.stream }) c.args.read accepted.id _ for.makes,
    )

pub returns-clause-answers : goal.returns-clause-answers
returns-clause-answers g c =
    let accepted = c.in_ok-accepted.accepted in
    let for = rw (c.units-units.ensures) at c.in_ok-accepted.ensures.ok in
    let moves = rw (c.of_edit-entry.ensures, c.into_edit.ensures, ← c.self.view_is) at c.in_ok-costs.ensures.ok in
    let number : c.len.result ≡ length c.make.new.self.journal =
    rw (← c.self-2.view_is) (omega (arith, c.len.ensures, c.self-2.inside.journal.ok.0)) in
    rw (← c.self.view_is) (Edits-moved _ c.args.read accepted c.in_ok-costs.costs.steps c.in_ok-costs.costs.lost_pictures c.hashed-hashed.result c.len.result c.in_ok-costs.costs.changed c.make.new.self for moves number c.hashed-hashed.ensures)
