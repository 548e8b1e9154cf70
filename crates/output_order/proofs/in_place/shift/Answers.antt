use Rattle.std.proofs.Common.{ap, sym, ◌∙◌, map}
use Rattle.output_order.specs.InPlace.{moved}
use Rattle.output_order.proofs.KeptKeys.{map-nowhere, map-before}
use Rattle.output_order.proofs.in_place.shift.Goals as goal
use Rattle.output_order.proofs.in_place.shift.Goals.{else-from-units-via-then-from-units+else-from-to, else-from-units-via-else-from-units}

pub returns-else-from-units-clause-items : goal.returns-else-from-units-clause-items
returns-else-from-units-clause-items c =
    let keys = c.args.keys.now.items in
    elim c.else-from-units.branch [
      | else-from-units-via-then-from-units+else-from-to w ↦ sym (ap (λ to. map (moved c.args.from to) keys) (sym w.if-from-to.false) ∙ map-nowhere c.args.from keys)
      | else-from-units-via-else-from-units w ↦ sym (map-before c.args.from c.args.to c.args.units keys w.if-from-units.false c.requires.below)
    ]
