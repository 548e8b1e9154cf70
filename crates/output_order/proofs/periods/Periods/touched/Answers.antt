use Rattle.std.proofs.Common.{◌≡◌, min, max, length, ◌∙◌, ap}
use Rattle.output_order.proofs.Starts.{starts_rise}
use Rattle.output_order.proofs.Splices.{touched_is}
use Rattle.output_order.proofs.periods.Periods.touched.Goals as goal

pub started_before-requires : goal.started_before-requires
started_before-requires c = rw c.deref.ensures.value (starts_rise c.self.inside.periods.items c.self.inside.counts.items c.self.invariant.counted)

pub started_before-requires-2 : goal.started_before-requires-2
started_before-requires-2 c = rw c.deref-2.ensures.value (starts_rise c.self.inside.periods.items c.self.inside.counts.items c.self.invariant.counted)

pub returns-clause-touched : goal.returns-clause-touched
returns-clause-touched c =
    let inside = c.self.inside in
    let counts = inside.counts.items in
    let within = rw (← c.self.view_is) at c.requires.within in
    let ended = c.started_before-2.result in
    let past : c.min-past.result ≡ min (max ended 1) (length counts) = c.min-past.ensures ∙ ap (λ most. min most c.len.result) c.max.ensures
    ∙ ap (min (max ended 1)) (c.len.ensures ∙ inside.counts.ok.0) in
    let touched = touched_is inside.periods.items counts c.self.invariant.counted c.args.low c.args.high c.started_before.result ended c.requires.ordered within
    (rw c.deref.ensures.value at c.started_before.ensures.bound) (rw c.deref.ensures.value at c.started_before.ensures.before)
    (rw c.deref-2.ensures.value at c.started_before-2.ensures.before) (rw c.deref-2.ensures.value at c.started_before-2.ensures.after) in
    rw (← c.self.view_is, c.saturating_sub-first.ensures, past)
    (touched c.start_of.result (rw (c.deref-3.ensures.value, c.saturating_sub-first.ensures) at c.start_of.ensures)
    (rw c.deref.ensures.value at c.started_before.ensures.after))
