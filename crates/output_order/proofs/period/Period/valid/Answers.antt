use Rattle.std.proofs.Common.{◌∙◌, ap}
use Rattle.std.proofs.lemmas.List.Sorted.{length_permutation}
use Rattle.output_order.specs.Periods.{valid_in}
use Rattle.output_order.proofs.OrderedKeys.{length-order_keys}
use Rattle.output_order.proofs.period.Period.valid.Goals as goal

pub returns : goal.returns
returns c =
    let period = c.self.inside in
    c.len.ensures ∙ period.sorted.ok.0 ∙ length_permutation _ _ c.self.invariant.order.permutation ∙ length-order_keys 0 period.units.items ∙ ap (λ one. valid_in one.units) c.self.view_is
