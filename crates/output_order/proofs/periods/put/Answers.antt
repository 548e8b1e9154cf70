use Rattle.std.proofs.Common.{◌++◌, take, drop, ap, ◌∙◌}
use Rattle.output_order.proofs.ChangedInside.{replaced}
use Rattle.output_order.proofs.periods.put.Goals as goal

pub returns-clause-items : goal.returns-clause-items
returns-clause-items c =
    let splice = c.splice.inside in
    let periods = c.args.periods.now.items in
    let can = rw (← c.splice.view_is) at c.requires.can in
    rw (← c.splice.view_is) (c.replace_range.ensures.items
    ∙ ap (λ now. take splice.first now ++ splice.periods.items ++ drop splice.past now) c.change_last.ensures.items
    ∙ replaced periods splice.periods.items splice.inside splice.first splice.past can.ordered can.within)
