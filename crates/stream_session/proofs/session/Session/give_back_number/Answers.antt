use Rattle.stream_session.proofs.Pictured.{IsStoreOf-kept, give_back_of_seen}
use Rattle.stream_session.proofs.session.Session.give_back_number.Goals as goal

pub returns : goal.returns
returns g c =
    let s = c.self.inside in
    rw (← c.self.view_is)
    (give_back_of_seen (record { origin = s.origin; entries = s.journal.items }) (record { ids_given = s.ids_given; stream = s.ordered.folded.stream }) s.store c.give_back_number.new.self
    (IsStoreOf-kept (record { origin = s.origin; entries = s.journal.items }) (record { ids_given = s.ids_given; stream = s.ordered.folded.stream }) s.store c.self.invariant) c.args.number c.give_back_number.result
    c.give_back_number.ensures)
