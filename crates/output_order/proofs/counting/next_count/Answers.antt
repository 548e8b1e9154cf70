use Rattle.std.proofs.Common.{◌≡◌, ◌-◌, ◌∙◌, length, get_or, ap, arith}
use Rattle.output_order.specs.declared.counting.Count.{Count}
use Rattle.output_order.specs.Periods.{valid_in}
use Rattle.output_order.proofs.Starts.{next_is, start_fits, earlier_fits}
use Rattle.output_order.proofs.counting.next_count.Goals as goal

pub overflow_add-result : goal.overflow_add-result
overflow_add-result c =
    let periods = c.args.periods.now in
    let counts = c.args.counts.now in
    let at = length counts in
    let none : Count = record { start = 0; earlier = 0 } in
    let e = c.index-periods-at.result in
    let next = ap (λ count. count.start) (next_is periods at counts c.requires.counted none e (omega arith) c.requires.within) in
    let long : length c.units.result.now ≡ length (get_or periods (at - 1) e).units = ap length (c.units.ensures ∙ ap (λ one. one.units) c.index-periods-at.is) in
    omega (arith, next, long, start_fits periods at, c.requires.fits)

pub overflow_add-result-2 : goal.overflow_add-result-2
overflow_add-result-2 c =
    let periods = c.args.periods.now in
    let counts = c.args.counts.now in
    let at = length counts in
    let none : Count = record { start = 0; earlier = 0 } in
    let e = c.index-periods-at.result in
    let next = ap (λ count. count.earlier) (next_is periods at counts c.requires.counted none e (omega arith) c.requires.within) in
    let valid : c.valid.result ≡ valid_in (get_or periods (at - 1) e).units = c.valid.ensures ∙ ap (λ one. valid_in one.units) c.index-periods-at.is in
    omega (arith, next, valid, earlier_fits periods at, c.requires.fits)
