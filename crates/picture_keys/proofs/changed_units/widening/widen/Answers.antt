use Rattle.std.proofs.Common.{ℕ, None, sym, ◌∙◌, subst, ◌<◌, ◌++◌, length, get_or, arith}
use Rattle.std.proofs.lemmas.Bool.{false≢true}
use Rattle.std.proofs.lemmas.Option.{slice_get-get_or}
use Rattle.std.proofs.lemmas.List.{take_all}
use Rattle.picture_keys.specs.Units.{ComparedUnit, units_in}
use Rattle.picture_keys.specs.Ranges.{IsLeast}
use Rattle.picture_keys.proofs.Least.{behind_more, least_next_more, least_next_same}
use Rattle.picture_keys.proofs.Lists.{contained}
use Rattle.picture_keys.proofs.Rows.{length-compared}
use Rattle.picture_keys.proofs.changed_units.widening.widen.Goals as goal
use Rattle.picture_keys.proofs.changed_units.widening.widen.Goals.{then-not-was_there, else-not-was_there}

pub returns-clause-least : goal.returns-clause-least
returns-clause-least c = λ all front long same least.
    let after = c.args.after.now in
    let count = length-compared after.ids.now after.outcomes.now after.numbers.now c.requires.after.0 c.requires.after.1 in
    subst (λ units. IsLeast all (front ++ units) c.loop-index.changed)
    (take_all c.loop-index.index (units_in after) (omega (arith, count, c.loop-index-test.false)))
    (c.loop-index.invariant.least all front long same least)

pub loop-index-preserved : goal.loop-index-preserved
loop-index-preserved c =
    let after = c.args.after.now in
    let index = c.loop-index.index in
    let units = units_in after in
    let count = length-compared after.ids.now after.outcomes.now after.numbers.now c.requires.after.0 c.requires.after.1 in
    let within : index < length units = omega (arith, count, c.loop-index-test.true) in
    let none : ComparedUnit ℕ = record { id = 0; key = None; fault = None } in
    let unit = get_or units index none in
    let here = slice_get-get_or units index none within in
    elim c.if-not-was_there.branch [
      | then-not-was_there w ↦ record {
        behind =
            rw (w.changed-is, w.with_unit-changed.ensures)
            (behind_more c.loop-index.changed.from c.loop-index.changed.count c.args.at index c.loop-index.invariant.behind);
        least = λ all front long same least.
            rw (w.changed-is, w.with_unit-changed.ensures)
            (least_next_more all front units index c.args.at unit c.loop-index.changed here (sym long)
            (λ was. false≢true (sym w.if-not-was_there.true ∙ (c.was_there.ensures unit here).1 ((same unit (contained units index unit here)).0 was)))
            (c.loop-index.invariant.least all front long same least));
      }
      | else-not-was_there w ↦ record {
        behind = rw (w.changed-is) (omega (arith, c.loop-index.invariant.behind));
        least = λ all front long same least.
            rw (w.changed-is)
            (least_next_same all front units index unit c.loop-index.changed here
            ((same unit (contained units index unit here)).1 ((c.was_there.ensures unit here).0 w.if-not-was_there.false))
            (c.loop-index.invariant.least all front long same least));
      }
    ]
