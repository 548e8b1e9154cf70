use Rattle.std.proofs.Common.{◌≡◌, Option, Some, None, sym, subst, refl}
use Rattle.picture_store.specs.Released as released
use Rattle.stream_edits.specs.Streams.{place_of}
use Rattle.stream_session.proofs.Needed.{drop_seen}
use Rattle.stream_session.proofs.Pictured.{IsStoreOf, IsStoreOf-kept}
use Rattle.stream_session.proofs.session.Session.drop_picture.Goals as goal
use Rattle.stream_session.proofs.session.Session.drop_picture.Goals.{in-Some-drop_picture, in-None}

pub returns : goal.returns
returns g c =
    let s = c.self.inside in
    let is : IsStoreOf s.ordered.folded.stream s.store = IsStoreOf-kept (record { origin = s.origin; entries = s.journal.items }) (record { ids_given = s.ids_given; stream = s.ordered.folded.stream }) s.store c.self.invariant in
    let stands : place_of s.ordered.folded.stream c.args.id ≡ Some c.in-Some.place =
    sym (rw (← c.self.view_is) at c.in-Some.ensures.value) in
    let Drops : Option g.row.P.Denot → Type 0 = λ answer.
    released.AnswersDrop g.P.Decoded.IsOf s.store c.in-Some.place answer c.drop_picture.new.self in
    elim c.match-drop_picture.branch [
      | in-Some-drop_picture w ↦
          rw (w.result-is, ← c.self.view_is) (
            c.in-Some.place,
            stands,
            drop_seen g.P.Decoded.IsOf (record { origin = s.origin; entries = s.journal.items }) (record { ids_given = s.ids_given; stream = s.ordered.folded.stream }) s.store is c.in-Some.place (Some w.in-Some-drop_picture.picture) c.drop_picture.new.self
                (subst Drops w.in-Some-drop_picture.is c.drop_picture.ensures),
            (refl, refl, refl),
          )
      | in-None w ↦
          rw (w.result-is, ← c.self.view_is) (
            c.in-Some.place,
            stands,
            drop_seen g.P.Decoded.IsOf (record { origin = s.origin; entries = s.journal.items }) (record { ids_given = s.ids_given; stream = s.ordered.folded.stream }) s.store is c.in-Some.place None c.drop_picture.new.self
                (subst Drops w.in-None.is c.drop_picture.ensures),
            (refl, refl, refl),
          )
    ]
