use Rattle.std.proofs.Common.{◌≡◌, ◌<◌, length, ◌⊎◌, inl, inr, subst, refl, arith}
use Rattle.std.proofs.lemmas.Option.{slice_get-get_or, slice_get_read}
use Rattle.unit_outcomes.specs.SeenUnits.{IsIdrAt, seen_units}
use Rattle.unit_outcomes.specs.Sets.{has}
use Rattle.unit_outcomes.specs.Walks.{Keeps}
use Rattle.unit_outcomes.proofs.Columns.{idr_at, seen_at}
use Rattle.unit_outcomes.proofs.doubts.range.walk_up.Goals as goal

pub loop-at-init : goal.loop-at-init
loop-at-init c = λ stream.
    let units = seen_units c.args.ids.now c.args.references.now c.args.outcomes.now in
    let start = c.walk_start-at.result in
    let begins : (start ≡ 0) ⊎ IsIdrAt units start = elim c.walk_start-at.ensures.begins [
      | inl zero ↦ inl zero
      | inr idr ↦ inr (idr_at c.args.ids.now c.args.references.now c.args.outcomes.now start c.requires.references c.requires.outcomes idr)
    ] in
    c.new-walk.ensures units start begins

pub loop-at-preserved : goal.loop-at-preserved
loop-at-preserved c = λ stream.
    let ids = c.args.ids.now in
    let references = c.args.references.now in
    let outcomes = c.args.outcomes.now in
    let at = c.loop-at.at in
    let inside : at < length ids = omega arith in
    let inside_references : at < length references = omega arith in
    let inside_outcomes : at < length outcomes = omega arith in
    (c.in_ok-next.ensures (seen_units ids references outcomes) at stream
    (seen_at ids references outcomes at _ _ _
    (slice_get_read ids (length ids) at c.index-ids-at.result refl inside c.index-ids-at.is)
    (slice_get-get_or references at _ inside_references)
    (slice_get_read outcomes (length outcomes) at c.index-outcomes-at.result refl inside_outcomes c.index-outcomes-at.is))
    (c.loop-at.invariant stream)).1

pub returns : goal.returns
returns c = λ stream.
    let units = seen_units c.args.ids.now c.args.references.now c.args.outcomes.now in
    let walk = c.loop-at.walk in
    let last : c.loop-at.at ≡ c.args.from = omega arith in
    subst (λ at. Keeps units at walk.first (has walk.sound)) last (c.loop-at.invariant stream)
