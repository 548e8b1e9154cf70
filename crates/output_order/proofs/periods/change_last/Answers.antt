use Rattle.std.proofs.Common.{◌-◌, set, ap, ◌∙◌, arith}
use Rattle.std.proofs.lemmas.List.{length-take-le}
use Rattle.output_order.specs.PeriodLists.{changed_inside}
use Rattle.output_order.proofs.ChangedInside.{set-last}
use Rattle.output_order.proofs.periods.change_last.Goals as goal

pub returns-in-Some-clause-items : goal.returns-in-Some-clause-items
returns-in-Some-clause-items c =
    let periods = c.args.periods.now.items in
    let count = c.args.count in
    let within = c.requires.within in
    let fits = rw c.in-Some.is at c.requires.fits in
    rw c.in-Some.is (ap (set periods (count - 1)) (c.change.ensures ∙ ap (changed_inside c.in-Some.inside) c.index_mut.ensures.value)
    ∙ set-last periods count (omega (arith, fits.0, length-take-le count periods (omega (arith, within, c.args.periods.now.ok.0)))) (omega (arith, within, c.args.periods.now.ok.0)) c.in-Some.inside _)
