use Rattle.std.proofs.Common.{◌≡◌, ◌∙◌, ap, sym, map, arith}
use Rattle.std.proofs.lemmas.Grind.{common_steps}
use Rattle.picture_keys.specs.Numbered.{number_named}
use Rattle.picture_keys.proofs.Numbering.{numbered_all}
use Rattle.picture_keys.proofs.nodes.entries_of.Goals as goal

pub returns-clause-ok : goal.returns-clause-ok
returns-clause-ok c =
    let done : c.loop-unit.entries.items ≡ map (number_named c.args.numbers.now) c.in_ok-units.units.items =
    grind (arith, common_steps, c.loop-unit.invariant.entries) in
    done
    ∙ ap (map (number_named c.args.numbers.now)) c.in_ok-units.ensures
    ∙ sym (numbered_all c.args.numbers.now c.args.requests.now)
