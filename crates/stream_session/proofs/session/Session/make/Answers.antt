use Rattle.stream_session.proofs.Accepted.{CanStand-kept, CanStand-after}
use Rattle.stream_session.proofs.Stored.{IsSound-after, Moves-after}
use Rattle.stream_session.proofs.session.Session.make.Goals as goal

pub change_stream-requires-clause-inside : goal.change_stream-requires-clause-inside
change_stream-requires-clause-inside g c = rw (← c.self.view_is) at c.requires.inside

pub change_stream-requires-clause-identified : goal.change_stream-requires-clause-identified
change_stream-requires-clause-identified g c = c.self.invariant.identified

pub change_stream-requires-clause-folded : goal.change_stream-requires-clause-folded
change_stream-requires-clause-folded g c = c.self.invariant.folded

pub change_stream-requires-clause-before : goal.change_stream-requires-clause-before
change_stream-requires-clause-before g c =
    let s = c.self.inside in
    CanStand-kept (record { origin = s.origin; entries = s.journal.items }) (record { ids_given = s.ids_given; stream = s.ordered.folded.stream }) s.store
    c.self.invariant

pub change_stream-requires-clause-after : goal.change_stream-requires-clause-after
change_stream-requires-clause-after g c =
    let s = c.self.inside in
    let come = rw (← c.self.view_is) at c.requires.come in
    CanStand-after (record { origin = s.origin; entries = s.journal.items }) (record { ids_given = s.ids_given; stream = s.ordered.folded.stream }) s.store
    c.self.invariant c.args.edits c.args.change c.args.ids_given come

pub invariant_of-self-2 : goal.invariant_of-self-2
invariant_of-self-2 g c =
    let s = c.self.inside in
    let come = rw (← c.self.view_is) at c.requires.come in
    rw (c.push_reserved.ensures.items, c.reserve.ensures.items, c.in_ok-costs.ensures.stream)
    (IsSound-after (record { origin = s.origin; entries = s.journal.items }) (record { ids_given = s.ids_given; stream = s.ordered.folded.stream }) s.store
    c.args.edits c.args.change c.args.ids_given c.in_ok-costs.costs.steps c.in_ok-costs.costs.lost_pictures c.in_ok-costs.costs.changed
    c.change_stream.new.store c.self.invariant come c.in_ok-costs.ensures.moves)

pub returns-clause-ok : goal.returns-clause-ok
returns-clause-ok g c =
    let s = c.self.inside in
    let come = rw (← c.self.view_is) at c.requires.come in
    rw (c.push_reserved.ensures.items, c.reserve.ensures.items, c.in_ok-costs.ensures.stream, ← c.self.view_is)
    (Moves-after (record { origin = s.origin; entries = s.journal.items }) (record { ids_given = s.ids_given; stream = s.ordered.folded.stream }) s.store
    c.args.edits c.args.change c.args.ids_given c.in_ok-costs.costs.steps c.in_ok-costs.costs.lost_pictures c.in_ok-costs.costs.changed
    c.change_stream.new.store c.self.invariant come c.in_ok-costs.ensures.moves)
