use Rattle.std.proofs.Common.{◌≡◌, ◌∙◌, cond, ap, length, count_by, arith}
use Rattle.std.proofs.lemmas.List.Sorted.{length_permutation, sum_by-IsPermutation}
use Rattle.output_order.specs.OrderKeys.{is_first, order_keys}
use Rattle.output_order.specs.Periods.{valid_in}
use Rattle.output_order.proofs.OrderedKeys.{length-order_keys}
use Rattle.output_order.proofs.period.Period.rank.Goals as goal

pub rank-requires-clause-spare : goal.rank-requires-clause-spare
rank-requires-clause-spare c =
    let period = c.self.inside in
    let long : length c.deref.result.now ≡ valid_in c.args.self.now.units = ap length c.deref.ensures.value
    ∙ length_permutation _ _ c.self.invariant.order.permutation ∙ length-order_keys 0 period.units.items ∙ ap (λ one. valid_in one.units) c.self.view_is in
    omega (arith, long, c.requires)

pub returns-clause-rank : goal.returns-clause-rank
returns-clause-rank c =
    let period = c.self.inside in
    c.rank.ensures.rank ∙ ap (λ keys. count_by (λ other. is_first other c.args.key) keys) c.deref.ensures.value
    ∙ sum_by-IsPermutation (λ other. cond (is_first other c.args.key) 1 0) _ _ c.self.invariant.order.permutation
    ∙ ap (λ one. count_by (λ other. is_first other c.args.key) (order_keys one.units)) c.self.view_is

pub returns-clause-few : goal.returns-clause-few
returns-clause-few c =
    let period = c.self.inside in
    let long : length c.deref.result.now ≡ valid_in c.args.self.now.units = ap length c.deref.ensures.value
    ∙ length_permutation _ _ c.self.invariant.order.permutation ∙ length-order_keys 0 period.units.items ∙ ap (λ one. valid_in one.units) c.self.view_is in
    omega (arith, long, c.rank.ensures.few)

pub returns-clause-searched : goal.returns-clause-searched
returns-clause-searched c =
    let period = c.self.inside in
    let long : length c.deref.result.now ≡ valid_in c.args.self.now.units = ap length c.deref.ensures.value
    ∙ length_permutation _ _ c.self.invariant.order.permutation ∙ length-order_keys 0 period.units.items ∙ ap (λ one. valid_in one.units) c.self.view_is in
    rw long at c.rank.ensures.searched
