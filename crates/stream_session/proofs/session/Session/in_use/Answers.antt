use Rattle.std.proofs.Common.{◌↔◌}
use Rattle.std.specs.Prelude.{IsTrue}
use Rattle.picture_store.specs.Stores.{StoreValue, AreOneToOne, IsNumberInUse}
use Rattle.stream_session.proofs.Pictured.{IsStoreOf, IsStoreOf-kept, one_seen}
use Rattle.stream_session.proofs.session.Session.in_use.Goals as goal

pub returns-clause-value : goal.returns-clause-value
returns-clause-value g c =
    let s = c.self.inside in
    let is : IsStoreOf s.ordered.folded.stream s.store =
    IsStoreOf-kept (record { origin = s.origin; entries = s.journal.items }) (record { ids_given = s.ids_given; stream = s.ordered.folded.stream }) s.store c.self.invariant in
    rw (← c.self.view_is)
    (one_seen (λ (store : StoreValue g.row.P.Denot). IsTrue c.in_use.result ↔ IsNumberInUse store c.args.key) (record { origin = s.origin; entries = s.journal.items })
    (record { ids_given = s.ids_given; stream = s.ordered.folded.stream }) s.store is c.in_use.ensures.value)

pub returns-clause-listed : goal.returns-clause-listed
returns-clause-listed g c = rw (← c.self.view_is) c.in_use.ensures.listed

pub returns-clause-one : goal.returns-clause-one
returns-clause-one g c =
    let s = c.self.inside in
    let is : IsStoreOf s.ordered.folded.stream s.store =
    IsStoreOf-kept (record { origin = s.origin; entries = s.journal.items }) (record { ids_given = s.ids_given; stream = s.ordered.folded.stream }) s.store c.self.invariant in
    rw (← c.self.view_is)
    (one_seen (λ (store : StoreValue g.row.P.Denot). AreOneToOne store store) (record { origin = s.origin; entries = s.journal.items }) (record { ids_given = s.ids_given; stream = s.ordered.folded.stream }) s.store is
    c.in_use.ensures.one)
