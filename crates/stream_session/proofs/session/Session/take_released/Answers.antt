use Rattle.stream_session.proofs.Needed.{released_seen}
use Rattle.stream_session.proofs.Pictured.{IsStoreOf-kept}
use Rattle.stream_session.proofs.session.Session.take_released.Goals as goal

pub returns : goal.returns
returns g c =
    let s = c.self.inside in
    rw (← c.self.view_is)
    (released_seen (record { origin = s.origin; entries = s.journal.items }) (record { ids_given = s.ids_given; stream = s.ordered.folded.stream }) s.store
    (IsStoreOf-kept (record { origin = s.origin; entries = s.journal.items }) (record { ids_given = s.ids_given; stream = s.ordered.folded.stream }) s.store c.self.invariant) c.take_released.result c.take_released.new.self c.take_released.ensures)
