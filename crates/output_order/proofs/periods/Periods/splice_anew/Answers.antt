use Rattle.std.proofs.Common.{◌≡◌, ◌-◌, ◌∙◌, ap}
use Rattle.std.specs.List.{slice_range}
use Rattle.output_order.specs.Periods.{units_of, spliced}
use Rattle.output_order.proofs.Splices.{high_within, splice_is}
use Rattle.output_order.proofs.periods.Periods.splice_anew.Goals as goal

pub units_after-requires-clause-within : goal.units_after-requires-clause-within
units_after-requires-clause-within c =
    let touched = rw (← c.self.view_is) at c.requires.touched in
    let place = c.args.touched in
    rw c.deref.ensures.value (high_within c.self.inside.periods.items c.self.invariant.periods_are c.args.low c.args.high place.first place.past place.start c.requires.ordered touched)

pub returns : goal.returns
returns c =
    let periods = c.self.inside.periods.items in
    let touched = rw (← c.self.view_is) at c.requires.touched in
    let fits = rw (← c.self.view_is) at c.requires.fits in
    let place = c.args.touched in
    let new = c.in_ok-periods_of.field-0.items in
    let units : units_of new ≡ spliced (c.args.low - place.start) (c.args.high - place.start) c.args.units.now (units_of (slice_range periods place.first place.past)) =
    c.in_ok-periods_of.ensures.units ∙ c.deref-2.ensures.value ∙ c.in_ok-after.ensures
    ∙ ap (λ all. spliced (c.args.low - place.start) (c.args.high - place.start) c.args.units.now (units_of (slice_range all place.first place.past))) c.deref.ensures.value in
    rw (← c.self.view_is) (splice_is periods c.self.invariant.periods_are c.args.low c.args.high place.first place.past place.start c.requires.ordered touched
    c.args.units.now new c.in_ok-periods_of.ensures.periods units fits)
