use Rattle.std.proofs.Common.{◌+◌, cond, ap, sym, ◌∙◌, rules}
use Rattle.std.proofs.lemmas.Int.{to_z-of_z}
use mir.Val.{SFits}
use mir.Syntax.{w32}
use Rattle.output_order.specs.OutputOrder.{begins_period, order_of}
use Rattle.output_order.proofs.Keys.{order-without, begins-without, bool_is, AreKeysBefore-fault, AreKeysBefore-plan}
use Rattle.output_order.proofs.positions_by_key.valid_keys.Goals as goal

pub loop-place-preserved-in_default : goal.loop-place-preserved-in_default
loop-place-preserved-in_default c =
    let loop = c.loop-place in
    AreKeysBefore-fault _ loop.place loop.period loop.keys.items loop.invariant
    c.index-outcomes-place.result c.loop-place-test.true c.index-outcomes-place.is
    (order-without c.index-outcomes-place.result c.in_default.not-Plan) (begins-without c.index-outcomes-place.result c.in_default.not-Plan)

pub loop-place-preserved : goal.loop-place-preserved
loop-place-preserved c =
    let loop = c.loop-place in
    let plan = c.in-Plan.plan in
    let fits : SFits w32 plan.order = search rules in
    let begun = c.from-period.ensures ∙ bool_is plan.begins_period
    ∙ ap (λ outcome. cond (begins_period outcome) 1 0) (sym c.in-Plan.is) in
    rw (c.in_ok-push.ensures.items, to_z-of_z w32 plan.order fits) (AreKeysBefore-plan _ loop.place loop.period loop.keys.items loop.invariant
    c.index-outcomes-place.result c.loop-place-test.true c.index-outcomes-place.is
    plan.order (loop.period + c.from-period.result) (ap order_of c.in-Plan.is) (ap (λ more. loop.period + more) begun))
