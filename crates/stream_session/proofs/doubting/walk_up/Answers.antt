use Rattle.std.proofs.Common.{◌≡◌, ◌⊎◌, inl, inr, subst, arith}
use Rattle.unit_outcomes.specs.SeenUnits.{IsIdrAt}
use Rattle.unit_outcomes.specs.Sets.{has}
use Rattle.unit_outcomes.specs.Walks.{Keeps}
use Rattle.unit_outcomes.proofs.Columns.{idr_at}
use Rattle.stream_session.specs.Doubting.{references_of, seen_with}
use Rattle.stream_edits.specs.Streams.{ids_of}
use Rattle.stream_session.proofs.InColumns.{many_references, many_outcomes}
use Rattle.stream_session.proofs.doubting.walk_up.Goals as goal

pub loop-at-init : goal.loop-at-init
loop-at-init c =
    let stream = c.args.units.now in
    let outcomes = c.args.outcomes.now in
    let start = c.walk_start-at.result in
    let begins : (start ≡ 0) ⊎ IsIdrAt (seen_with stream outcomes) start = elim c.walk_start-at.ensures.begins [
      | inl zero ↦ inl zero
      | inr idr ↦ inr (idr_at (ids_of stream) (references_of stream) outcomes start (many_references stream)
          (many_outcomes stream outcomes c.requires.same) idr)
    ] in
    c.new-walk.ensures (seen_with stream outcomes) start begins

pub loop-at-preserved : goal.loop-at-preserved
loop-at-preserved c = c.in_ok-next.ensures.1

pub returns : goal.returns
returns c =
    let units = seen_with c.args.units.now c.args.outcomes.now in
    let walk = c.loop-at.walk in
    let last : c.loop-at.at ≡ c.args.from = omega arith in
    subst (λ at. Keeps units at walk.first (has walk.sound)) last c.loop-at.invariant
