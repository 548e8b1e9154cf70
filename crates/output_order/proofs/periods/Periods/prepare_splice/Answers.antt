use Rattle.std.proofs.Common.{◌≡◌, [], sym, ap, ◌∙◌, subst}
use Rattle.std.proofs.lemmas.Bool.{true≢false}
use Rattle.std.proofs.lemmas.Result.{IfOk-weaker}
use Rattle.output_order.specs.PeriodLists.{Change, IsSplice}
use Rattle.output_order.specs.Places.{change_inside}
use Rattle.output_order.proofs.ChangedInside.{inside_is, touched_inside}
use Rattle.output_order.proofs.periods.Periods.prepare_splice.Goals as goal

pub returns-then-is_inside-clause-splice : goal.returns-then-is_inside-clause-splice
returns-then-is_inside-clause-splice c =
    let touched = c.touched-touched in
    let periods = c.args.self.now.periods in
    let low = c.args.low in
    let high = c.args.high in
    let units = c.args.units.now in
    let inside = c.is_inside.ensures.0 c.if-is_inside.true in
    let is : IsSplice (change_inside touched.result low high units) periods low high units =
    inside_is periods touched.ensures.periods touched.result low high units c.requires.ordered touched.ensures.touched inside (record { units = []; spare = 0 }) c.requires.fits in
    IfOk-weaker c.splice_inside.result (λ (splice : Change). splice ≡ change_inside touched.result low high units) (λ splice. IsSplice splice periods low high units)
    (λ splice same. subst (λ (one : Change). IsSplice one periods low high units) (sym same) is) c.splice_inside.ensures

pub returns-then-is_inside-clause-inside : goal.returns-then-is_inside-clause-inside
returns-then-is_inside-clause-inside c =
    λ at inside.
    IfOk-weaker c.splice_inside.result (λ (splice : Change). splice ≡ change_inside c.touched-touched.result c.args.low c.args.high c.args.units.now) (λ (splice : Change). splice.periods ≡ [])
    (λ splice same. ap (λ (one : Change). one.periods) same) c.splice_inside.ensures

pub returns-else-is_inside-clause-inside : goal.returns-else-is_inside-clause-inside
returns-else-is_inside-clause-inside c =
    λ at inside.
    let touched = c.touched-touched in
    let one = touched_inside c.args.self.now.periods touched.result at c.args.low c.args.high c.args.units.now c.requires.ordered touched.ensures.touched inside in
    absurd (true≢false (sym (c.is_inside.ensures.1 one) ∙ c.if-is_inside.false))
