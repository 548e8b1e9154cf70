use Rattle.picture_store.specs.Stores.{StoreValue, AreNumbered}
use Rattle.stream_session.proofs.Pictured.{IsStoreOf, IsStoreOf-kept, one_seen}
use Rattle.stream_session.proofs.session.Session.numbers.Goals as goal

pub returns-clause-numbered : goal.returns-clause-numbered
returns-clause-numbered g c =
    let s = c.self.inside in
    let is : IsStoreOf s.ordered.folded.stream s.store =
    IsStoreOf-kept (record { origin = s.origin; entries = s.journal.items }) (record { ids_given = s.ids_given; stream = s.ordered.folded.stream }) s.store c.self.invariant in
    rw (← c.self.view_is)
    (one_seen (λ (store : StoreValue g.row.P.Denot). AreNumbered store) (record { origin = s.origin; entries = s.journal.items }) (record { ids_given = s.ids_given; stream = s.ordered.folded.stream }) s.store is
    c.numbers.ensures.numbered)
