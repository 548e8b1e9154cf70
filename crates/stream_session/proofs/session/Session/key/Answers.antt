use Rattle.std.proofs.Common.{◌≡◌, Some, sym, arith}
use Rattle.picture_store.specs.Stores.{StoreValue, AreOneToOne}
use Rattle.stream_edits.specs.Streams.{place_of}
use Rattle.stream_session.proofs.Pictured.{IsStoreOf, IsStoreOf-kept, one_seen}
use Rattle.stream_session.proofs.Seen.{length-stored, number_found}
use Rattle.stream_session.proofs.session.Session.key.Goals as goal

pub key_at-requires : goal.key_at-requires
key_at-requires g c =
    let s = c.self.inside in
    let is : IsStoreOf s.ordered.folded.stream s.store =
    IsStoreOf-kept (record { origin = s.origin; entries = s.journal.items }) (record { ids_given = s.ids_given; stream = s.ordered.folded.stream }) s.store c.self.invariant in
    omega (
      arith,
      rw (← c.self.view_is) at c.in-Some.ensures.inside,
      length-stored s.ordered.folded.stream s.store is,
    )

pub returns-in-Some-clause-value : goal.returns-in-Some-clause-value
returns-in-Some-clause-value g c =
    let s = c.self.inside in
    let is : IsStoreOf s.ordered.folded.stream s.store =
    IsStoreOf-kept (record { origin = s.origin; entries = s.journal.items }) (record { ids_given = s.ids_given; stream = s.ordered.folded.stream }) s.store c.self.invariant in
    let stands : place_of s.ordered.folded.stream c.args.id ≡ Some c.in-Some.place =
    sym (rw (← c.self.view_is) at c.in-Some.ensures.value) in
    rw (← c.self.view_is)
    (number_found (record { origin = s.origin; entries = s.journal.items }) (record { ids_given = s.ids_given; stream = s.ordered.folded.stream }) s.store c.args.id c.in-Some.place is stands
    c.key_at.result c.key_at.ensures.value)

pub returns-in-Some-clause-one : goal.returns-in-Some-clause-one
returns-in-Some-clause-one g c =
    let s = c.self.inside in
    let is : IsStoreOf s.ordered.folded.stream s.store =
    IsStoreOf-kept (record { origin = s.origin; entries = s.journal.items }) (record { ids_given = s.ids_given; stream = s.ordered.folded.stream }) s.store c.self.invariant in
    rw (← c.self.view_is)
    (one_seen (λ (store : StoreValue g.row.P.Denot). AreOneToOne store store) (record { origin = s.origin; entries = s.journal.items }) (record { ids_given = s.ids_given; stream = s.ordered.folded.stream }) s.store is
    c.key_at.ensures.one)
