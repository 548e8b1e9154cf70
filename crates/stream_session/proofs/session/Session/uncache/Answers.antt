use Rattle.stream_session.proofs.Needed.{uncache_seen}
use Rattle.stream_session.proofs.Pictured.{IsStoreOf-kept}
use Rattle.stream_session.proofs.session.Session.uncache.Goals as goal

pub returns : goal.returns
returns g c =
    let s = c.self.inside in
    rw (← c.self.view_is)
    (uncache_seen g.P.Decoded.IsOf (record { origin = s.origin; entries = s.journal.items }) (record { ids_given = s.ids_given; stream = s.ordered.folded.stream }) s.store
    (IsStoreOf-kept (record { origin = s.origin; entries = s.journal.items }) (record { ids_given = s.ids_given; stream = s.ordered.folded.stream }) s.store c.self.invariant) c.uncache.result c.uncache.new.self c.uncache.ensures)
