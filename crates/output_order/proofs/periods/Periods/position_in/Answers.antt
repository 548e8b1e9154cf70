use Rattle.std.proofs.Common.{◌≡◌, ℕ, ◌+◌, ◌-◌, ◌≤◌, ◌∙◌, Some, None, length, get_or, count_by, is_some, take, ap, sym, arith, rules}
use Rattle.std.proofs.lemmas.Int.{to_z-of_z}
use Rattle.std.proofs.lemmas.List.Sums.{count_by-le-length}
use mir.Val.{SFits}
use mir.Syntax.{w32}
use Rattle.output_order.specs.declared.order_key.OrderKey.{OrderKey}
use Rattle.output_order.specs.OrderKeys.{is_first, order_keys}
use Rattle.output_order.specs.Periods.{units_of, valid_in}
use Rattle.output_order.specs.Bounds.{period_size}
use Rattle.output_order.specs.PeriodLists.{count_at}
use Rattle.output_order.proofs.OrderedKeys.{length-order_keys}
use Rattle.output_order.proofs.Starts.{period_fits}
use Rattle.output_order.proofs.Finds.{position_found, size_found}
use Rattle.output_order.proofs.periods.Periods.position_in.Goals as goal

pub index-count-requires : goal.index-count-requires
index-count-requires c =
    let inside = c.self.inside in
    let found = rw (← c.self.view_is) at c.period_at-at.ensures in
    omega (arith, found.inside, c.self.invariant.counted.as_many, inside.counts.ok.0)

pub index-period-requires : goal.index-period-requires
index-period-requires c =
    let inside = c.self.inside in
    let found = rw (← c.self.view_is) at c.period_at-at.ensures in
    omega (arith, found.inside, inside.periods.ok.0)

pub returns-in_default-clause-position : goal.returns-in_default-clause-position
returns-in_default-clause-position c =
    λ outcomes is.
    let periods = c.self.inside.periods.items in
    let at = c.period_at-at.result in
    let place = c.args.place in
    let found = rw (← c.self.view_is) at c.period_at-at.ensures in
    let d = c.index-period.result.now in
    let count : c.index-count.result.now ≡ count_at periods at = c.index-count.ensures ∙ c.self.invariant.counted.each at c.index-count.result.now found.inside in
    let read : get_or (get_or periods at d).units (place - length (units_of (take at periods))) None ≡ None =
    ap (λ period. get_or period.units (place - length (units_of (take at periods))) None) (sym c.index-period.ensures)
    ∙ ap (λ one. get_or d.units (place - one.start) None) (sym count) ∙ sym c.shown.ensures ∙ c.in_default.is in
    sym (position_found periods c.self.invariant.periods_are outcomes (is ∙ ap (λ kept. units_of kept.periods) (sym c.self.view_is)) place at found d None read)

pub rank-requires : goal.rank-requires
rank-requires c =
    let periods = c.self.inside.periods.items in
    let found = rw (← c.self.view_is) at c.period_at-at.ensures in
    let d = c.index-period.result.now in
    let spare = rw (← c.self.view_is) at c.requires.spare in
    let long : length d.units ≡ length (get_or periods c.period_at-at.result d).units = ap (λ one. length one.units) c.index-period.ensures in
    omega (arith, period_fits periods c.period_at-at.result d found.inside, count_by-le-length is_some d.units, long, spare)

pub overflow_add-result : goal.overflow_add-result
overflow_add-result c =
    let periods = c.self.inside.periods.items in
    let at = c.period_at-at.result in
    let found = rw (← c.self.view_is) at c.period_at-at.ensures in
    let d = c.index-period.result.now in
    let count : c.index-count.result.now.earlier ≡ valid_in (units_of (take at periods)) =
    ap (λ one. one.earlier) (c.index-count.ensures ∙ c.self.invariant.counted.each at c.index-count.result.now found.inside) in
    let long : length d.units ≡ length (get_or periods at d).units = ap (λ one. length one.units) c.index-period.ensures in
    let rank : c.rank.result ≤ length (order_keys d.units) = rw c.rank.ensures.rank (count_by-le-length _ _) in
    omega (arith, count, long, rank, c.self.invariant.fits, period_fits periods at d found.inside, count_by-le-length is_some d.units, count_by-le-length is_some (units_of (take at periods)), length-order_keys 0 d.units)

pub returns-clause-few : goal.returns-clause-few
returns-clause-few c =
    λ outcomes is.
    let periods = c.self.inside.periods.items in
    let at = c.period_at-at.result in
    let found = rw (← c.self.view_is) at c.period_at-at.ensures in
    let d = c.index-period.result.now in
    let size = size_found periods c.self.invariant.periods_are outcomes (is ∙ ap (λ kept. units_of kept.periods) (sym c.self.view_is)) c.args.place at found d in
    let same : valid_in d.units ≡ valid_in (get_or periods at d).units = ap (λ one. valid_in one.units) c.index-period.ensures in
    omega (arith, size, same, c.rank.ensures.few)

pub returns-clause-position : goal.returns-clause-position
returns-clause-position c =
    λ outcomes is.
    let periods = c.self.inside.periods.items in
    let at = c.period_at-at.result in
    let place = c.args.place in
    let found = rw (← c.self.view_is) at c.period_at-at.ensures in
    let d = c.index-period.result.now in
    let front = units_of (take at periods) in
    let shown = c.in-Some.shown in
    let fits : SFits w32 shown.order = search rules in
    let same = to_z-of_z w32 shown.order fits in
    let key : ℕ → OrderKey = λ offset. record { order = shown.order; offset = offset } in
    let count : c.index-count.result.now ≡ count_at periods at = c.index-count.ensures ∙ c.self.invariant.counted.each at c.index-count.result.now found.inside in
    let read : get_or (get_or periods at d).units (place - length front) None ≡ Some shown =
    ap (λ period. get_or period.units (place - length front) None) (sym c.index-period.ensures)
    ∙ ap (λ one. get_or d.units (place - one.start) None) (sym count) ∙ sym c.shown.ensures ∙ c.in-Some.is in
    let rank : c.rank.result ≡ count_by (λ other. is_first other (key (place - c.index-count.result.now.start))) (order_keys d.units) = rw same at c.rank.ensures.rank in
    ap (λ n. Some (c.index-count.result.now.earlier + n)) rank
    ∙ ap (λ one. Some (one.earlier + count_by (λ other. is_first other (key (place - one.start))) (order_keys d.units))) count
    ∙ ap (λ period. Some (valid_in front + count_by (λ other. is_first other (key (place - length front))) (order_keys period.units))) c.index-period.ensures
    ∙ sym (position_found periods c.self.invariant.periods_are outcomes (is ∙ ap (λ kept. units_of kept.periods) (sym c.self.view_is)) place at found d (Some shown) read)

pub returns-clause-searched : goal.returns-clause-searched
returns-clause-searched c =
    λ outcomes is.
    let periods = c.self.inside.periods.items in
    let at = c.period_at-at.result in
    let found = rw (← c.self.view_is) at c.period_at-at.ensures in
    let d = c.index-period.result.now in
    let size = size_found periods c.self.invariant.periods_are outcomes (is ∙ ap (λ kept. units_of kept.periods) (sym c.self.view_is)) c.args.place at found d in
    let same : valid_in d.units ≡ period_size outcomes c.args.place = ap (λ one. valid_in one.units) c.index-period.ensures ∙ size in
    rw same at c.rank.ensures.searched
