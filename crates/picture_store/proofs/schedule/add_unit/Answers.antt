use Rattle.std.proofs.Common.{◌≡◌, refl, sym, ap, ◌∙◌, subst, Some, Contains}
use Rattle.std.proofs.lemmas.Option.{none-some, same_Some}
use Rattle.std.proofs.lemmas.Result.{on_ok_weaker}
use Rattle.decode_jobs.specs.KeyMaps.{tree_at}
use Rattle.picture_store.proofs.Entering.{refers_among}
use Rattle.picture_store.proofs.schedule.add_unit.Goals as goal

pub returns-in_default-clause-all : goal.returns-in_default-clause-all
returns-in_default-clause-all g c = λ entry refers not.
    absurd (none-some refers.number ((c.in_default.ensures refers.number).1 refers.stands))

pub returns-in-Some-node-clause-all : goal.returns-in-Some-node-clause-all
returns-in-Some-node-clause-all g c =
    let units = c.args.units.now in
    let node = c.in-Some-node.node.now in
    on_ok_weaker c.add_entries.result
    (λ all entry refers not.
    all entry
    (subst (λ entries. Contains entries (Some entry)) (sym c.entries.ensures)
    (refers_among units.keys.now c.requires.one units.numbers.now c.args.at entry c.in-Some.key node
    ((c.in-Some.ensures c.in-Some.key).0 refl) c.in-Some-node.ensures refers)) not)
    c.add_entries.ensures.all

pub returns-in-None-clause-all : goal.returns-in-None-clause-all
returns-in-None-clause-all g c = λ entry refers not.
    let units = c.args.units.now in
    let same : Some refers.number ≡ Some c.in-Some.key = sym ((c.in-Some.ensures refers.number).1 refers.stands) in
    let none = sym c.in-None.ensures ∙ ap (tree_at units.keys.now) (sym (same_Some refers.number c.in-Some.key same)) in
    absurd (none-some refers.tree (none ∙ refers.tree_is))
