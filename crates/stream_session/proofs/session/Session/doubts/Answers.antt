use Rattle.std.proofs.Common.{ap, sym, ◌∙◌, length}
use Rattle.stream_session.proofs.InColumns.{ids_differ}
use Rattle.stream_session.proofs.Pictured.{IsStoreOf, IsStoreOf-kept}
use Rattle.stream_session.proofs.Seen.{length-folded}
use Rattle.stream_session.proofs.session.Session.doubts.Goals as goal

pub doubts_of-requires-clause-same : goal.doubts_of-requires-clause-same
doubts_of-requires-clause-same g c =
    let s = c.self.inside in
    let stream = s.ordered.folded.stream in
    let is : IsStoreOf stream s.store =
    IsStoreOf-kept (record { origin = s.origin; entries = s.journal.items }) (record { ids_given = s.ids_given; stream = stream }) s.store c.self.invariant in
    ap length c.outcomes-outcomes.ensures ∙ (length-folded stream s.store is ∙ sym (ap length c.units-units.ensures))

pub doubts_of-requires-clause-differ : goal.doubts_of-requires-clause-differ
doubts_of-requires-clause-differ g c =
    let s = c.self.inside in
    rw (c.units-units.ensures, c.outcomes-outcomes.ensures, c.self.invariant.folded)
    (ids_differ (record { origin = s.origin; entries = s.journal.items }) (record { ids_given = s.ids_given; stream = s.ordered.folded.stream }) s.store c.self.invariant)
