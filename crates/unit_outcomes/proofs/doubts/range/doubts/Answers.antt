use Rattle.std.proofs.Common.{◌+◌, ◌-◌, ◌<◌, length, sym, subst, refl, arith}
use Rattle.std.proofs.lemmas.Option.{slice_get-get_or, slice_get_read}
use Rattle.unit_outcomes.specs.SeenUnits.{seen_units}
use Rattle.unit_outcomes.specs.InDoubt.{AreDoubts}
use Rattle.unit_outcomes.proofs.Columns.{seen_at, told_more}
use Rattle.unit_outcomes.proofs.doubts.range.doubts.Goals as goal

pub loop-at-preserved : goal.loop-at-preserved
loop-at-preserved c = λ stream.
    let ids = c.args.ids.now in
    let references = c.args.references.now in
    let outcomes = c.args.outcomes.now in
    let units = seen_units ids references outcomes in
    let at = c.loop-at.at in
    let from = c.args.from in
    let inside : at < length ids = omega arith in
    let inside_references : at < length references = omega arith in
    let inside_outcomes : at < length outcomes = omega arith in
    let was = c.loop-at.invariant stream in
    let passed = c.in_ok-next.ensures units at stream
    (seen_at ids references outcomes at _ _ _
    (slice_get_read ids (length ids) at c.index-ids-at.result refl inside c.index-ids-at.is)
    (slice_get-get_or references at _ inside_references)
    (slice_get_read outcomes (length outcomes) at c.index-outcomes-at.result refl inside_outcomes c.index-outcomes-at.is))
    was.0 in (
      passed.1,
      subst (AreDoubts units from (at + 1 - from)) (sym c.in_ok-push.ensures.items)
          (told_more units from (at - from) (at + 1 - from) at c.loop-at.doubts.items c.in_ok-next.doubt
          (omega (arith, c.loop-at.auto.at)) (omega (arith, c.loop-at.auto.at)) was.1 passed.0),
    )
