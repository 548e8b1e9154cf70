use Rattle.std.proofs.Common.{◌≡◌, ◌<◌, length, Some, ap, sym, ◌∙◌, refl, arith}
use Rattle.std.specs.Prelude.{slice_get}
use Rattle.std.proofs.lemmas.Option.{slice_get_read}
use Rattle.unit_outcomes.specs.declared.outcome.Outcome.{Outcome}
use Rattle.unit_outcomes.specs.declared.outcome.Outcome.TheVariants.{Empty, Fault, Plan}
use Rattle.stream_session.proofs.Looked.{place_kept}
use Rattle.stream_session.proofs.Pictured.{IsStoreOf, IsStoreOf-kept}
use Rattle.stream_session.proofs.Seen.{length-folded, shows_empty, shows_fault, shows_pending, shows_ready}
use Rattle.stream_session.proofs.session.Session.show_at.Goals as goal

pub bounds-outcomes-at : goal.bounds-outcomes-at
bounds-outcomes-at g c =
    let s = c.self.inside in
    omega (
      arith,
      rw (← c.self.view_is) at c.requires,
      ap length c.outcomes.ensures,
      length-folded s.ordered.folded.stream s.store
          (IsStoreOf-kept (record { origin = s.origin; entries = s.journal.items }) (record { ids_given = s.ids_given; stream = s.ordered.folded.stream }) s.store c.self.invariant),
    )

pub returns-in-Fault : goal.returns-in-Fault
returns-in-Fault g c =
    let s = c.self.inside in
    let is : IsStoreOf s.ordered.folded.stream s.store =
    IsStoreOf-kept (record { origin = s.origin; entries = s.journal.items }) (record { ids_given = s.ids_given; stream = s.ordered.folded.stream }) s.store c.self.invariant in
    let within : c.args.at < length c.outcomes.result.now = omega (
      arith,
      rw (← c.self.view_is) at c.requires,
      ap length c.outcomes.ensures,
      length-folded s.ordered.folded.stream s.store is,
    ) in
    let read =
    slice_get_read c.outcomes.result.now (length c.outcomes.result.now) c.args.at c.index-outcomes-at.result refl within
    c.index-outcomes-at.is in
    let outcome : slice_get s.store.outcomes c.args.at ≡ Some (Fault c.in-Fault.fault) =
    rw (← c.outcomes.ensures) (read ∙ ap (λ (other : Outcome). Some other) (sym (c.deref-outcome.ensures ∙ c.deref.ensures) ∙ c.in-Fault.is)) in
    rw (← c.self.view_is) (λ id stands.
    shows_fault (record { origin = s.origin; entries = s.journal.items }) (record { ids_given = s.ids_given; stream = s.ordered.folded.stream }) s.store id c.args.at is
    (place_kept (record { origin = s.origin; entries = s.journal.items }) (record { ids_given = s.ids_given; stream = s.ordered.folded.stream }) s.store c.self.invariant id c.args.at stands)
    c.in-Fault.fault outcome)

pub returns-in-Empty : goal.returns-in-Empty
returns-in-Empty g c =
    let s = c.self.inside in
    let is : IsStoreOf s.ordered.folded.stream s.store =
    IsStoreOf-kept (record { origin = s.origin; entries = s.journal.items }) (record { ids_given = s.ids_given; stream = s.ordered.folded.stream }) s.store c.self.invariant in
    let within : c.args.at < length c.outcomes.result.now = omega (
      arith,
      rw (← c.self.view_is) at c.requires,
      ap length c.outcomes.ensures,
      length-folded s.ordered.folded.stream s.store is,
    ) in
    let read =
    slice_get_read c.outcomes.result.now (length c.outcomes.result.now) c.args.at c.index-outcomes-at.result refl within
    c.index-outcomes-at.is in
    let outcome : slice_get s.store.outcomes c.args.at ≡ Some Empty =
    rw (← c.outcomes.ensures) (read ∙ ap (λ (other : Outcome). Some other) (sym (c.deref-outcome.ensures ∙ c.deref.ensures) ∙ c.in-Empty.is)) in
    rw (← c.self.view_is) (λ id stands.
    shows_empty (record { origin = s.origin; entries = s.journal.items }) (record { ids_given = s.ids_given; stream = s.ordered.folded.stream }) s.store id c.args.at is
    (place_kept (record { origin = s.origin; entries = s.journal.items }) (record { ids_given = s.ids_given; stream = s.ordered.folded.stream }) s.store c.self.invariant id c.args.at stands)
    outcome)

pub returns-in-Some : goal.returns-in-Some
returns-in-Some g c =
    let s = c.self.inside in
    let is : IsStoreOf s.ordered.folded.stream s.store =
    IsStoreOf-kept (record { origin = s.origin; entries = s.journal.items }) (record { ids_given = s.ids_given; stream = s.ordered.folded.stream }) s.store c.self.invariant in
    rw (← c.self.view_is) (λ id stands.
    shows_ready g.P.Decoded.IsOf (record { origin = s.origin; entries = s.journal.items }) (record { ids_given = s.ids_given; stream = s.ordered.folded.stream }) s.store id c.args.at is
    (place_kept (record { origin = s.origin; entries = s.journal.items }) (record { ids_given = s.ids_given; stream = s.ordered.folded.stream }) s.store c.self.invariant id c.args.at stands)
    c.in-Some.picture c.in-Some.ensures)

pub returns-in-None : goal.returns-in-None
returns-in-None g c =
    let s = c.self.inside in
    let is : IsStoreOf s.ordered.folded.stream s.store =
    IsStoreOf-kept (record { origin = s.origin; entries = s.journal.items }) (record { ids_given = s.ids_given; stream = s.ordered.folded.stream }) s.store c.self.invariant in
    let within : c.args.at < length c.outcomes.result.now = omega (
      arith,
      rw (← c.self.view_is) at c.requires,
      ap length c.outcomes.ensures,
      length-folded s.ordered.folded.stream s.store is,
    ) in
    let read =
    slice_get_read c.outcomes.result.now (length c.outcomes.result.now) c.args.at c.index-outcomes-at.result refl within
    c.index-outcomes-at.is in
    let outcome : slice_get s.store.outcomes c.args.at ≡ Some (Plan c.in-Plan.field-0) =
    rw (← c.outcomes.ensures) (read ∙ ap (λ (other : Outcome). Some other) (sym (c.deref-outcome.ensures ∙ c.deref.ensures) ∙ c.in-Plan.is)) in
    rw (← c.self.view_is) (λ id stands.
    shows_pending (record { origin = s.origin; entries = s.journal.items }) (record { ids_given = s.ids_given; stream = s.ordered.folded.stream }) s.store id c.args.at is
    (place_kept (record { origin = s.origin; entries = s.journal.items }) (record { ids_given = s.ids_given; stream = s.ordered.folded.stream }) s.store c.self.invariant id c.args.at stands)
    c.in-Plan.field-0 outcome c.in-None.ensures)
