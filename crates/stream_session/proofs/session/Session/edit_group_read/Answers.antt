use Rattle.std.proofs.Common.{◌≡◌, length, arith, refl}
use Rattle.stream_session.proofs.Accepted.{HasIds-kept}
use Rattle.stream_session.proofs.Moved.{EditsAll-moved}
use Rattle.stream_session.proofs.session.Session.edit_group_read.Goals as goal

pub change_of_group-requires-clause-different : goal.change_of_group-requires-clause-different
change_of_group-requires-clause-different g c =
    let s = c.self.inside in
    rw c.units-units.ensures
    (HasIds-kept (record { origin = s.origin; entries = s.journal.items }) (record { ids_given = s.ids_given; stream = s.ordered.folded.stream }) s.store c.self.invariant)

pub returns-clause-answers : goal.returns-clause-answers
returns-clause-answers g c =
    let accepted = c.in_ok-accepted.accepted in
    let for = rw (c.units-units.ensures) at c.in_ok-accepted.ensures.ok in
    let moves = rw (c.of_group-entry.ensures, c.into_edits.ensures, ← c.self.view_is) at c.in_ok-costs.ensures.ok in
    let s = c.self.inside in
    let different =
    HasIds-kept (record { origin = s.origin; entries = s.journal.items }) (record { ids_given = s.ids_given; stream = s.ordered.folded.stream }) s.store c.self.invariant in
    let number : c.len.result ≡ length c.make.new.self.journal =
    rw (← c.self-2.view_is) (omega (arith, c.len.ensures, c.self-2.inside.journal.ok.0)) in
    rw (← c.self.view_is)
    (EditsAll-moved _ c.args.group accepted (record { number = c.len.result; ids = accepted.ids; steps = c.in_ok-costs.costs.steps; hashed = accepted.hashed; lost_pictures = c.in_ok-costs.costs.lost_pictures; changed = c.in_ok-costs.costs.changed })
    c.make.new.self different for moves number refl c.in_ok-accepted.ensures.hashed)
