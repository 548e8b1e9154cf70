use Rattle.std.proofs.Common.{◌≡◌, ◌-◌, ◌<◌, get_or, length, ap, ◌∙◌, arith}
use Rattle.output_order.specs.PeriodLists.{count_at}
use Rattle.output_order.proofs.Starts.{period_fits}
use Rattle.output_order.proofs.periods.Periods.len.Goals as goal

pub overflow_add-result : goal.overflow_add-result
overflow_add-result c =
    let periods = c.self.inside.periods.items in
    let counts = c.self.inside.counts.items in
    let count = c.in-Some-Some.count.now in
    let period = c.in-Some-Some.period.now in
    let at = length periods - 1 in
    let many = c.self.invariant.counted.as_many in
    let last_count = rw (c.deref.ensures.value, many) at c.in-Some-Some.ensures.item.1 in
    let last_period = rw c.deref-2.ensures.value at c.in-Some-Some.ensures'.item.1 in
    let some : 0 < length periods = rw c.deref-2.ensures.value at c.in-Some-Some.ensures'.item.3.0 in
    let start : count.start ≡ (count_at periods at).start = ap (λ one. one.start) (last_count ∙ c.self.invariant.counted.each at count (omega arith)) in
    let long : length c.units.result.now ≡ length (get_or periods at period).units = ap length c.units.ensures ∙ ap (λ one. length one.units) last_period in
    omega (arith, start, long, period_fits periods at period (omega arith), c.self.invariant.fits)
