use Rattle.std.proofs.Common.{◌≡◌, ℕ, ◌<◌, List, length, None, subst, ap, ◌∙◌, get_or, refl, arith}
use Rattle.std.specs.Prelude.{Ok, Err}
use Rattle.std.proofs.lemmas.List.{length-map}
use Rattle.picture_store.specs.Stores.{StoreValue}
use Rattle.stream_edits.specs.Streams.{ids_of}
use Rattle.stream_session.specs.Machines.{Machine}
use Rattle.stream_session.specs.Jobs.{AnswersTake}
use Rattle.stream_session.specs.Stored.{machine_of}
use Rattle.stream_session.proofs.Needed.{all_wait}
use Rattle.stream_session.proofs.Pictured.{IsStoreOf, IsStoreOf-kept, take_seen}
use Rattle.stream_session.proofs.Told.{id_read, within_stream, told_seen}
use Rattle.stream_session.proofs.session.Session.take_with_unit.Goals as goal
use Rattle.stream_session.proofs.session.Session.take_with_unit.Goals.{in-Ok-Some, in-Ok-None, in-Err}

pub bounds-ids-at : goal.bounds-ids-at
bounds-ids-at g c =
    let s = c.self.inside in
    let is : IsStoreOf s.ordered.folded.stream s.store =
    IsStoreOf-kept (record { origin = s.origin; entries = s.journal.items }) (record { ids_given = s.ids_given; stream = s.ordered.folded.stream }) s.store c.self.invariant in
    let told = rw c.in-Ok-Some.field-0-is at c.in-Ok-Some.ensures.tells in
    let stay : c.take.new.self.ids ≡ s.store.ids = ap (λ (store : StoreValue g.row.P.Denot). store.ids) told.0.gives.new_is in
    omega (
      arith,
      told.1,
      told.0.gives.at_is,
      within_stream s.ordered.folded.stream s.store is c.in-Ok-Some.field-0-0.job c.take.new.self told.0,
      ap length is.identified,
      ap length stay,
      ap length c.ids.ensures,
    )

pub offset_bounds-ids-at : goal.offset_bounds-ids-at
offset_bounds-ids-at g c =
    let s = c.self.inside in
    let is : IsStoreOf s.ordered.folded.stream s.store =
    IsStoreOf-kept (record { origin = s.origin; entries = s.journal.items }) (record { ids_given = s.ids_given; stream = s.ordered.folded.stream }) s.store c.self.invariant in
    let told = rw c.in-Ok-Some.field-0-is at c.in-Ok-Some.ensures.tells in
    omega (
      arith,
      told.1,
      told.0.gives.at_is,
      within_stream s.ordered.folded.stream s.store is c.in-Ok-Some.field-0-0.job c.take.new.self told.0,
      length-map s.ordered.folded.stream (λ unit. unit.0),
      c.self.invariant.bounded,
    )

pub returns-clause-tells : goal.returns-clause-tells
returns-clause-tells g c =
    let s = c.self.inside in
    let is : IsStoreOf s.ordered.folded.stream s.store =
    IsStoreOf-kept (record { origin = s.origin; entries = s.journal.items }) (record { ids_given = s.ids_given; stream = s.ordered.folded.stream }) s.store c.self.invariant in
    elim c.match-take.branch [
      | in-Ok-Some w ↦
          let told = rw w.in-Ok-Some.field-0-is at (w.in-Ok-Some.ensures {u = tt}).tells in
          let stay : c.take.new.self.ids ≡ s.store.ids = ap (λ (store : StoreValue g.row.P.Denot). store.ids) told.0.gives.new_is in
          let same : w.ids.result.now ≡ ids_of s.ordered.folded.stream = w.ids.ensures ∙ (stay ∙ is.identified) in
          let within : w.in-Ok-Some.field-0-0.at < length (ids_of s.ordered.folded.stream) = omega (
            arith,
            told.1,
            told.0.gives.at_is,
            within_stream s.ordered.folded.stream s.store is w.in-Ok-Some.field-0-0.job c.take.new.self told.0,
          ) in
          let read : w.index-ids-at.result ≡ get_or (ids_of s.ordered.folded.stream) w.in-Ok-Some.field-0-0.at w.index-ids-at.result =
          w.index-ids-at.is ∙ ap (λ (ids : List ℕ). get_or ids w.in-Ok-Some.field-0-0.at w.index-ids-at.result) same in
          rw (w.result-is, ← c.self.view_is)
          (told_seen s.ordered.folded.stream s.store is w.in-Ok-Some.field-0-0.job c.take.new.self told.0 (record { origin = s.origin; entries = s.journal.items }) s.ids_given
          w.index-ids-at.result
          (id_read s.ordered.folded.stream w.in-Ok-Some.field-0-0.at (length told.0.gives.before) w.index-ids-at.result (told.1 ∙ told.0.gives.at_is) within read))
      | in-Ok-None w ↦
          let told = rw w.in-Ok-None.field-0-is at (w.in-Ok-None.ensures {u = tt}).tells in
          rw (w.result-is, ← c.self.view_is)
          (take_seen g.P.Decoded.IsOf (record { origin = s.origin; entries = s.journal.items }) (record { ids_given = s.ids_given; stream = s.ordered.folded.stream }) s.store c.take.new.self is (Ok None) told)
      | in-Err w ↦
          rw w.result-is
          (subst (λ (old : Machine g.row.P.Denot). AnswersTake g.P.Decoded.IsOf old (Err w.in-Err.refused) (machine_of (record { origin = s.origin; entries = s.journal.items }) (record { ids_given = s.ids_given; stream = s.ordered.folded.stream }) c.take.new.self))
          c.self.view_is
          (take_seen g.P.Decoded.IsOf (record { origin = s.origin; entries = s.journal.items }) (record { ids_given = s.ids_given; stream = s.ordered.folded.stream }) s.store c.take.new.self is
          (Err w.in-Err.refused) (w.in-Err.ensures {u = tt}).tells))
    ]

pub returns-clause-waits : goal.returns-clause-waits
returns-clause-waits g c =
    let s = c.self.inside in
    let is : IsStoreOf s.ordered.folded.stream s.store =
    IsStoreOf-kept (record { origin = s.origin; entries = s.journal.items }) (record { ids_given = s.ids_given; stream = s.ordered.folded.stream }) s.store c.self.invariant in
    elim c.match-take.branch [
      | in-Ok-Some w ↦ rw w.result-is (λ none. absurd cc)
      | in-Ok-None w ↦
          let waits = rw w.in-Ok-None.field-0-is at (w.in-Ok-None.ensures {u = tt}).waits in
          rw (w.result-is, ← c.self.view_is)
          (λ none. all_wait (record { origin = s.origin; entries = s.journal.items }) (record { ids_given = s.ids_given; stream = s.ordered.folded.stream }) s.store is (waits refl))
      | in-Err w ↦ rw w.result-is tt
    ]
