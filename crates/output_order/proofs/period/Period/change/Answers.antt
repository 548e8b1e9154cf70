use Rattle.std.proofs.Common.{length, ap, ◌∙◌, arith}
use Rattle.output_order.proofs.KeptKeys.{keys_below, kept_sorted, length-kept, length-spliced, order_after}
use Rattle.output_order.proofs.period.Period.change.Goals as goal

pub keep-requires-clause-below : goal.keep-requires-clause-below
keep-requires-clause-below c =
    let period = c.self.inside in
    let inside = c.inside.inside in
    let ordered = rw (← c.inside.view_is) at c.requires.ordered in
    let within = rw (← c.inside.view_is, ← c.self.view_is) at c.requires.within in
    rw (c.len.ensures, period.units.ok.0)
    (keys_below period.units.items inside.units.items period.sorted.items c.self.invariant.order inside.low inside.high ordered within)

pub put_in-requires-clause-sorted : goal.put_in-requires-clause-sorted
put_in-requires-clause-sorted c =
    let period = c.self.inside in
    let inside = c.inside.inside in
    let ordered = rw (← c.inside.view_is) at c.requires.ordered in
    let within = rw (← c.inside.view_is, ← c.self.view_is) at c.requires.within in
    rw (c.keep.ensures.items, c.len-count.ensures, inside.units.ok.0)
    (kept_sorted period.units.items inside.units.items period.sorted.items c.self.invariant.order inside.low inside.high ordered within)

pub put_in-requires-clause-spare : goal.put_in-requires-clause-spare
put_in-requires-clause-spare c =
    let period = c.self.inside in
    let inside = c.inside.inside in
    let ordered = rw (← c.inside.view_is) at c.requires.ordered in
    let within = rw (← c.inside.view_is, ← c.self.view_is) at c.requires.within in
    let spare = rw (← c.inside.view_is, ← c.self.view_is) at c.requires.spare in
    let items = rw (c.len-count.ensures, inside.units.ok.0) at c.keep.ensures.items in
    let few = length-kept period.units.items inside.units.items period.sorted.items c.self.invariant.order inside.low inside.high ordered within in
    omega (arith, few, ap length items, c.keep.new.keys.ok.0, c.keep.ensures.capacity, c.deref.ensures.len, inside.units.ok.0, period.units.ok.0, c.self.invariant.keys_fit, spare, ordered, within)

pub invariant_of-self : goal.invariant_of-self
invariant_of-self c =
    let period = c.self.inside in
    let inside = c.inside.inside in
    let ordered = rw (← c.inside.view_is) at c.requires.ordered in
    let within = rw (← c.inside.view_is, ← c.self.view_is) at c.requires.within in
    let spare = rw (← c.inside.view_is, ← c.self.view_is) at c.requires.spare in
    let permutation = rw (c.keep.ensures.items, c.len-count.ensures, inside.units.ok.0, c.deref.ensures.value) at c.put_in.ensures.permutation in
    let long = ap length c.replace_range.ensures.items
    ∙ length-spliced period.units.items inside.units.items period.sorted.items c.self.invariant.order inside.low inside.high ordered within in
    record {
      order =
          rw c.replace_range.ensures.items (order_after period.units.items inside.units.items period.sorted.items c.self.invariant.order inside.low inside.high ordered within
          c.put_in.new.keys.items permutation c.put_in.ensures.sorted);
      units_fit = omega (arith, long, c.replace_range.new.items.ok.0, c.replace_range.ensures.capacity, c.len-count.ensures, inside.units.ok.0, period.units.ok.0, c.self.invariant.units_fit, spare, ordered, within);
      keys_fit = omega (arith, long, c.replace_range.new.items.ok.0, c.put_in.ensures.capacity, c.keep.ensures.capacity, c.len-count.ensures, inside.units.ok.0, period.units.ok.0, c.self.invariant.keys_fit, spare, ordered, within);
    }
