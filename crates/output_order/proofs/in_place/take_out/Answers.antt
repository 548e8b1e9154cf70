use Rattle.std.proofs.Common.{sym, rules}
use Rattle.std.proofs.lemmas.Fn.{filter_same}
use Rattle.output_order.proofs.KeptKeys.{filter-nothing}
use Rattle.output_order.proofs.in_place.take_out.Goals as goal

pub returns-then-low-high-clause-items : goal.returns-then-low-high-clause-items
returns-then-low-high-clause-items c = filter_same _ _ _ (λ x b f' k. search rules) _ _ c.retain.ensures.filtered

pub returns-else-low-high-clause-items : goal.returns-else-low-high-clause-items
returns-else-low-high-clause-items c = sym (filter-nothing c.args.low c.args.high c.args.keys.now.items c.if-low-high.false)
