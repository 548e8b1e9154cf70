use Rattle.output_order.proofs.Starts.{starts_rise}
use Rattle.output_order.proofs.Finds.{found_some, found_is}
use Rattle.output_order.proofs.periods.Periods.period_at.Goals as goal

pub started_before-requires : goal.started_before-requires
started_before-requires c = rw c.deref.ensures.value (starts_rise c.self.inside.periods.items c.self.inside.counts.items c.self.invariant.counted)

pub overflow_sub-result : goal.overflow_sub-result
overflow_sub-result c =
    let inside = c.self.inside in
    let within = rw (← c.self.view_is) at c.requires in
    found_some inside.periods.items inside.counts.items c.self.invariant.counted c.args.place c.started_before.result within
    (rw c.deref.ensures.value at c.started_before.ensures.bound) (rw c.deref.ensures.value at c.started_before.ensures.before) (rw c.deref.ensures.value at c.started_before.ensures.after)

pub returns : goal.returns
returns c =
    let inside = c.self.inside in
    let within = rw (← c.self.view_is) at c.requires in
    rw (← c.self.view_is) (found_is inside.periods.items inside.counts.items c.self.invariant.counted c.args.place c.started_before.result within
    (rw c.deref.ensures.value at c.started_before.ensures.bound) (rw c.deref.ensures.value at c.started_before.ensures.before) (rw c.deref.ensures.value at c.started_before.ensures.after))
