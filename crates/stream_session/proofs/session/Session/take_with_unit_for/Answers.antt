use Rattle.std.proofs.Common.{◌≡◌, ℕ, List, length, Some, sym, subst, ap, ◌∙◌, get_or, refl, arith}
use Rattle.std.specs.Prelude.{Err}
use Rattle.std.proofs.lemmas.List.{length-map}
use Rattle.std.proofs.lemmas.Option.{slice_get_read}
use Rattle.picture_store.specs.Stores.{StoreValue}
use Rattle.stream_edits.specs.Streams.{ids_of, place_of}
use Rattle.stream_session.specs.Machines.{Machine}
use Rattle.stream_session.specs.Needing.{AnswersTakeWithUnitFor}
use Rattle.stream_session.specs.Stored.{machine_of}
use Rattle.stream_session.proofs.Pictured.{IsStoreOf, IsStoreOf-kept}
use Rattle.stream_session.proofs.Needed.{gives_within, none_seen, one_waits, refused_seen, takes_seen}
use Rattle.stream_session.proofs.session.Session.take_with_unit_for.Goals as goal
use Rattle.stream_session.proofs.session.Session.take_with_unit_for.Goals.{in-Ok-Some, in-Ok-None, in-Err}

pub bounds-ids-at : goal.bounds-ids-at
bounds-ids-at g c =
    let s = c.self.inside in
    let is : IsStoreOf s.ordered.folded.stream s.store =
    IsStoreOf-kept (record { origin = s.origin; entries = s.journal.items }) (record { ids_given = s.ids_given; stream = s.ordered.folded.stream }) s.store c.self.invariant in
    let told = rw c.in-Ok-Some.field-0-is at c.in-Ok-Some.ensures.tells in
    let stay : c.take_for.new.self.ids ≡ s.store.ids = ap (λ (store : StoreValue g.row.P.Denot). store.ids) told.gives.new_is in
    omega (
      arith,
      gives_within s.ordered.folded.stream s.store is c.in-Ok-Some.field-0-0.at c.in-Ok-Some.field-0-0.job c.take_for.new.self told.gives,
      ap length is.identified,
      ap length stay,
      ap length c.ids-ids.ensures,
    )

pub offset_bounds-ids-at : goal.offset_bounds-ids-at
offset_bounds-ids-at g c =
    let s = c.self.inside in
    let is : IsStoreOf s.ordered.folded.stream s.store =
    IsStoreOf-kept (record { origin = s.origin; entries = s.journal.items }) (record { ids_given = s.ids_given; stream = s.ordered.folded.stream }) s.store c.self.invariant in
    let told = rw c.in-Ok-Some.field-0-is at c.in-Ok-Some.ensures.tells in
    omega (
      arith,
      gives_within s.ordered.folded.stream s.store is c.in-Ok-Some.field-0-0.at c.in-Ok-Some.field-0-0.job c.take_for.new.self told.gives,
      length-map s.ordered.folded.stream (λ unit. unit.0),
      c.self.invariant.bounded,
    )

pub returns-clause-tells : goal.returns-clause-tells
returns-clause-tells g c =
    let s = c.self.inside in
    let is : IsStoreOf s.ordered.folded.stream s.store =
    IsStoreOf-kept (record { origin = s.origin; entries = s.journal.items }) (record { ids_given = s.ids_given; stream = s.ordered.folded.stream }) s.store c.self.invariant in
    let stands : place_of s.ordered.folded.stream c.args.id ≡ Some c.in-Some.place =
    sym (rw (← c.self.view_is) at c.in-Some.ensures.value) in
    elim c.match-take_for.branch [
      | in-Ok-Some w ↦
          let told = rw w.in-Ok-Some.field-0-is at (w.in-Ok-Some.ensures {u = tt}).tells in
          let stay : c.take_for.new.self.ids ≡ s.store.ids = ap (λ (store : StoreValue g.row.P.Denot). store.ids) told.gives.new_is in
          let same : w.ids-ids.result.now ≡ ids_of s.ordered.folded.stream = w.ids-ids.ensures ∙ (stay ∙ is.identified) in
          let within =
          gives_within s.ordered.folded.stream s.store is w.in-Ok-Some.field-0-0.at w.in-Ok-Some.field-0-0.job c.take_for.new.self told.gives in
          let read : w.index-ids-at.result ≡ get_or (ids_of s.ordered.folded.stream) w.in-Ok-Some.field-0-0.at w.index-ids-at.result =
          w.index-ids-at.is ∙ ap (λ (ids : List ℕ). get_or ids w.in-Ok-Some.field-0-0.at w.index-ids-at.result) same in
          rw (w.result-is, ← c.self.view_is)
          (takes_seen (record { origin = s.origin; entries = s.journal.items }) (record { ids_given = s.ids_given; stream = s.ordered.folded.stream }) s.store is c.args.id c.in-Some.place stands
          w.in-Ok-Some.field-0-0.at w.index-ids-at.result w.in-Ok-Some.field-0-0.job c.take_for.new.self told
          (slice_get_read (ids_of s.ordered.folded.stream) (length (ids_of s.ordered.folded.stream)) w.in-Ok-Some.field-0-0.at w.index-ids-at.result refl within read))
      | in-Ok-None w ↦
          let told = rw w.in-Ok-None.field-0-is at (w.in-Ok-None.ensures {u = tt}).tells in
          rw (w.result-is, ← c.self.view_is)
          (none_seen (record { origin = s.origin; entries = s.journal.items }) (record { ids_given = s.ids_given; stream = s.ordered.folded.stream }) s.store is c.args.id c.in-Some.place stands c.take_for.new.self told)
      | in-Err w ↦
          rw w.result-is
          (subst (λ (old : Machine g.row.P.Denot). AnswersTakeWithUnitFor g.P.Decoded.IsOf old c.args.id (Err w.in-Err.refused) (machine_of (record { origin = s.origin; entries = s.journal.items }) (record { ids_given = s.ids_given; stream = s.ordered.folded.stream }) c.take_for.new.self))
          c.self.view_is
          (refused_seen (record { origin = s.origin; entries = s.journal.items }) (record { ids_given = s.ids_given; stream = s.ordered.folded.stream }) s.store is c.args.id c.in-Some.place stands g.P.Decoded.IsOf w.in-Err.refused c.take_for.new.self
          (w.in-Err.ensures {u = tt}).tells))
    ]

pub returns-clause-waits : goal.returns-clause-waits
returns-clause-waits g c =
    let s = c.self.inside in
    let is : IsStoreOf s.ordered.folded.stream s.store =
    IsStoreOf-kept (record { origin = s.origin; entries = s.journal.items }) (record { ids_given = s.ids_given; stream = s.ordered.folded.stream }) s.store c.self.invariant in
    let stands : place_of s.ordered.folded.stream c.args.id ≡ Some c.in-Some.place =
    sym (rw (← c.self.view_is) at c.in-Some.ensures.value) in
    elim c.match-take_for.branch [
      | in-Ok-Some w ↦ rw w.result-is (λ none. absurd cc)
      | in-Ok-None w ↦
          let waits = rw w.in-Ok-None.field-0-is at (w.in-Ok-None.ensures {u = tt}).waits in
          rw (w.result-is, ← c.self.view_is)
          (λ none. one_waits (record { origin = s.origin; entries = s.journal.items }) (record { ids_given = s.ids_given; stream = s.ordered.folded.stream }) s.store is c.args.id c.in-Some.place stands (waits refl))
      | in-Err w ↦ rw w.result-is tt
    ]
