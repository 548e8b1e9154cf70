use Rattle.stream_edits.specs.Edits.{Register}
use Rattle.stream_session.proofs.Altered.{mark_refused, mark_stays, mark_told, none_told}
use Rattle.stream_session.proofs.Pictured.{IsSound-stays, IsStoreOf-kept}
use Rattle.stream_session.proofs.session.Session.mark.Goals as goal

pub invariant_of-self : goal.invariant_of-self
invariant_of-self g c =
    let s = c.self.inside in
    let register : Register = record { ids_given = s.ids_given; stream = s.ordered.folded.stream } in
    IsSound-stays (record { origin = s.origin; entries = s.journal.items }) register s.store c.mark.new.self c.self.invariant
    (mark_stays (record { origin = s.origin; entries = s.journal.items }) register s.store (IsStoreOf-kept (record { origin = s.origin; entries = s.journal.items }) register s.store c.self.invariant) c.mark.result
    c.mark.new.self c.mark.ensures.ok c.mark.ensures.err)

pub returns-clause-ok : goal.returns-clause-ok
returns-clause-ok g c =
    let s = c.self.inside in
    let register : Register = record { ids_given = s.ids_given; stream = s.ordered.folded.stream } in
    rw (← c.self.view_is)
    (mark_told (record { origin = s.origin; entries = s.journal.items }) register s.store (IsStoreOf-kept (record { origin = s.origin; entries = s.journal.items }) register s.store c.self.invariant) c.mark.result
    c.mark.new.self c.mark.ensures.ok)

pub returns-clause-unaltered : goal.returns-clause-unaltered
returns-clause-unaltered g c =
    let s = c.self.inside in
    let register : Register = record { ids_given = s.ids_given; stream = s.ordered.folded.stream } in
    none_told (record { origin = s.origin; entries = s.journal.items }) register s.store (IsStoreOf-kept (record { origin = s.origin; entries = s.journal.items }) register s.store c.self.invariant) c.mark.result
    c.mark.new.self c.mark.ensures.ok

pub returns-clause-err : goal.returns-clause-err
returns-clause-err g c =
    let s = c.self.inside in
    let register : Register = record { ids_given = s.ids_given; stream = s.ordered.folded.stream } in
    rw (← c.self.view_is)
    (mark_refused (record { origin = s.origin; entries = s.journal.items }) register s.store (IsStoreOf-kept (record { origin = s.origin; entries = s.journal.items }) register s.store c.self.invariant) c.mark.result
    c.mark.new.self c.mark.ensures.err)
