use Rattle.stream_session.proofs.Looked.{ids_apart}
use Rattle.stream_session.proofs.session.Session.find.Goals as goal

pub place_of-requires : goal.place_of-requires
place_of-requires g c =
    let s = c.self.inside in
    rw c.ids.ensures
    (ids_apart (record { origin = s.origin; entries = s.journal.items }) (record { ids_given = s.ids_given; stream = s.ordered.folded.stream }) s.store c.self.invariant)
