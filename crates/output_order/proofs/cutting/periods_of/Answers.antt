use Rattle.std.proofs.Common.{◌≡◌, length, ap, sym, ◌∙◌, arith}
use Rattle.std.proofs.lemmas.Bool.{and_parts, ltb-true}
use Rattle.std.proofs.lemmas.List.{get_or_default}
use Rattle.output_order.specs.Shown.{begins_period}
use Rattle.output_order.proofs.Cuts.{IsCutUpTo-period, periods_last, units_last, units_all}
use Rattle.output_order.proofs.cutting.periods_of.Goals as goal
use Rattle.output_order.proofs.cutting.periods_of.Goals.{then-start-units+in_ok-new-2+in_ok-push-2, else-start-units}

pub loop-at-preserved : goal.loop-at-preserved
loop-at-preserved c =
    let loop = c.loop-at in
    let units = c.args.units.now in
    let both = and_parts _ _ (sym c.if-not-is_cut.ensures) in
    rw (c.in_ok-push.ensures.items, c.in_ok-new.ensures) (IsCutUpTo-period units loop.start loop.at loop.periods.items loop.invariant
    (ltb-true _ _ both.0) (omega arith) (λ d. ap begins_period (get_or_default units loop.at d _ c.loop-at-test.true) ∙ both.1) 0)

pub returns-clause-periods : goal.returns-clause-periods
returns-clause-periods c =
    let loop = c.loop-at in
    let units = c.args.units.now in
    let end : length units ≡ loop.at = omega arith in
    elim c.if-start-units.branch [
      | then-start-units+in_ok-new-2+in_ok-push-2 w ↦ rw (w.periods-is, w.in_ok-push-2.ensures.items, w.in_ok-new-2.ensures)
          (periods_last units loop.start loop.at loop.periods.items loop.invariant end _ w.if-start-units.true)
      | else-start-units w ↦ rw w.periods-is loop.invariant.periods_are
    ]

pub returns-clause-units : goal.returns-clause-units
returns-clause-units c =
    let loop = c.loop-at in
    let units = c.args.units.now in
    let end : length units ≡ loop.at = omega arith in
    elim c.if-start-units.branch [
      | then-start-units+in_ok-new-2+in_ok-push-2 w ↦ rw (w.periods-is, w.in_ok-push-2.ensures.items, w.in_ok-new-2.ensures)
          (units_last units loop.start loop.at loop.periods.items loop.invariant end _ w.if-start-units.true)
      | else-start-units w ↦ rw w.periods-is (units_all units loop.start loop.at loop.periods.items loop.invariant end w.if-start-units.false)
    ]
