use Rattle.std.proofs.Common.{◌≡◌, Some, sym, arith}
use Rattle.stream_edits.specs.Streams.{place_of}
use Rattle.stream_session.proofs.Altered.{altered_seen}
use Rattle.stream_session.proofs.Pictured.{IsStoreOf, IsStoreOf-kept}
use Rattle.stream_session.proofs.Seen.{length-stored}
use Rattle.stream_session.proofs.session.Session.is_altered.Goals as goal

pub is_altered-requires : goal.is_altered-requires
is_altered-requires g c =
    let s = c.self.inside in
    let is : IsStoreOf s.ordered.folded.stream s.store =
    IsStoreOf-kept (record { origin = s.origin; entries = s.journal.items }) (record { ids_given = s.ids_given; stream = s.ordered.folded.stream }) s.store c.self.invariant in
    omega (
      arith,
      rw (← c.self.view_is) at c.in-Some.ensures.inside,
      length-stored s.ordered.folded.stream s.store is,
    )

pub returns-in-Some : goal.returns-in-Some
returns-in-Some g c =
    let s = c.self.inside in
    let is : IsStoreOf s.ordered.folded.stream s.store =
    IsStoreOf-kept (record { origin = s.origin; entries = s.journal.items }) (record { ids_given = s.ids_given; stream = s.ordered.folded.stream }) s.store c.self.invariant in
    let stands : place_of s.ordered.folded.stream c.args.id ≡ Some c.in-Some.place =
    sym (rw (← c.self.view_is) at c.in-Some.ensures.value) in
    rw (← c.self.view_is) (
      c.in-Some.place,
      stands,
      altered_seen (record { origin = s.origin; entries = s.journal.items }) (record { ids_given = s.ids_given; stream = s.ordered.folded.stream }) s.store is c.args.id
          c.in-Some.place stands c.is_altered.result c.is_altered.ensures,
    )
