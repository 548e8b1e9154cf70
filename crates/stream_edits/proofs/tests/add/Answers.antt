use Rattle.std.proofs.Common.{◌≡◌, ◌+◌, ℕ, List, [], ◌∷◌, ◌++◌, length, sym, subst, refl}
use Rattle.std.proofs.Math.Seq.{take-length, drop-length}
use Rattle.std.specs.Prelude.{insert}
use Rattle.stream_edits.specs.Ids.{HasIds}
use Rattle.stream_edits.specs.Streams.{Stream}
use Rattle.stream_edits.proofs.GivenIds.{HasIds-insert}
use Rattle.stream_edits.proofs.tests.add.Goals as goal

-- a unit at the end is inserted there
pushed : (stream : Stream) (unit : ℕ × List (List ℕ)) → stream ++ unit ∷ [] ≡ insert stream (length stream) unit
pushed stream unit = rw (take-length stream, drop-length stream) refl

-- a unit more under the next id
HasIds-next : (ids_given id : ℕ) (stream : Stream) (unit : List (List ℕ)) → id ≡ ids_given + 1 → HasIds (record { ids_given = ids_given; stream = stream })
    → HasIds (record { ids_given = ids_given + 1; stream = stream ++ (id, unit) ∷ [] })
HasIds-next ids_given id stream unit next ids =
    HasIds-insert (record { ids_given = ids_given; stream = stream })
    (record { ids_given = ids_given + 1; stream = stream ++ (id, unit) ∷ [] })
    id (length stream) unit ids next (sym next) (pushed stream (id, unit))

-- src/tests.rt:24:1
pub returns-clause-different : goal.returns-clause-different
returns-clause-different c =
    let next = HasIds-next c.args.ids_given c.new-id.result c.args.units.now.0.items c.args.unit c.new-id.ensures c.requires.different in
    subst (λ items. HasIds (record { ids_given = c.args.ids_given + 1; stream = items })) (sym c.in_ok-push.ensures.items) next
