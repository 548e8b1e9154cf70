use Rattle.std.proofs.Common.{◌≡◌, ◌+◌, ◌++◌, ◌∷◌, [], List, take, length, refl, sym, subst, ap, ◌∙◌, arith, rules}
use Rattle.std.proofs.lemmas.List.{take_more, take_all, length-take-le}
use Rattle.std.proofs.lemmas.Result.{err_from_is_err_and}
use Rattle.sqlite_trees.specs.View.{IsClean, View}
use Rattle.edit_journal.specs.declared.line.RowStep.{RowStep}
use Rattle.edit_journal.specs.Lines.{Keeps, edit_tree, lines_of}
use Rattle.edit_journal.proofs.ViewLemmas.{Puts, puts_nothing, puts_more, quiet_same, quiet_then, writes_keep, written_keeps, on_err}
use Rattle.edit_journal.proofs.FaultLemmas.{fails_large, fails_later, row_fits}
use Rattle.edit_journal.proofs.writing.put_steps.Goals as goal

pub loop-step-init : goal.loop-step-init
loop-step-init g c = record {
  count = omega arith;
  puts = λ _. puts_nothing (g.S.Store.view c.args.store.now) c.args.rows c.args.entry;
  schema = record { shape = refl; reals = refl; committed_shape = refl; committed_reals = refl; numbered = refl };
  quiet = quiet_same g.S.Store c.args.store.now;
}

pub returns-in_default-clause-keeps : goal.returns-in_default-clause-keeps
returns-in_default-clause-keeps g c clean = written_keeps (g.S.Store.view c.args.store.now) (g.S.Store.view c.loop-step.store) (c.loop-step.invariant.puts clean).writes

pub returns-in_err-put_step-clause-keeps : goal.returns-in_err-put_step-clause-keeps
returns-in_err-put_step-clause-keeps g c clean =
    let early : IsClean (g.S.Store.view c.loop-step.store) = omega (arith, c.put_step.ensures.quiet.clean, clean) in
    on_err c.from_residual.result _
    (writes_keep (g.S.Store.view c.args.store.now) (g.S.Store.view c.loop-step.store) (g.S.Store.view c.put_step.new.store) (c.loop-step.invariant.puts early).writes c.in_err-put_step.ensures.keeps)

pub returns-in_default-clause-fails : goal.returns-in_default-clause-fails
returns-in_default-clause-fails g c clean =
    fails_large g.S.Store c.args.store.now c.loop-step.store _ (λ fits. absurd (omega (arith, fits.numbered, c.loop-step.invariant.count, c.loop-step-test.true, c.in_default.ensures)))

pub returns-in_err-put_step-clause-fails : goal.returns-in_err-put_step-clause-fails
returns-in_err-put_step-clause-fails g c clean =
    let p = err_from_is_err_and c.from_residual.result c.from_residual.ensures.1 in
    let l = c.loop-step in
    let steps = c.args.steps.now in
    let old = g.S.Store.view c.args.store.now in
    let mid = g.S.Store.view l.store in
    let early : IsClean mid = omega (arith, c.put_step.ensures.quiet.clean, clean) in
    let writes = (l.invariant.puts early).writes in
    let count : c.in-Some.number ≡ c.args.rows + (l.step-index + 1) = grind (arith, c.in-Some.ensures, l.invariant.count) in
    let reals : mid.reals edit_tree ≡ old.reals edit_tree = ap (λ (v : View). v.reals edit_tree) writes in
    let fits = row_fits (old.reals edit_tree) c.args.rows c.args.entry steps l.step-index c.step-item.result _ c.in-Some.number c.loop-step-test.true c.step-item.is (omega (arith, l.invariant.count)) count in
    rw (p.1, p.2) (fails_later g.S.Store c.args.store.now l.store c.put_step.new.store _ _ _ l.invariant.quiet.counts (ap (λ (v : View). v.shape) writes) (ap (λ (v : View). v.is_broken) writes)
    (λ not_storable all. not_storable (rw reals (fits all))) (c.in_err-put_step.ensures.fails clean))

pub loop-step-preserved : goal.loop-step-preserved
loop-step-preserved g c =
    let l = c.loop-step in
    let steps = c.args.steps.now in
    let item = c.step-item.result in
    let old = g.S.Store.view c.args.store.now in
    let now = g.S.Store.view l.store in
    let new = g.S.Store.view c.put_step.new.store in
    let count : c.in-Some.number ≡ c.args.rows + (l.step-index + 1) = grind (arith, c.in-Some.ensures, l.invariant.count) in
    let long : length (take l.step-index steps) ≡ l.step-index = length-take-le l.step-index steps (omega (arith, c.loop-step-test.true)) in
    record {
      count = count;
      puts = λ clean.
          let early : IsClean now = omega (arith, c.put_step.ensures.quiet.clean, clean) in
          let more : take l.step-index steps ++ item ∷ [] ≡ take (l.step-index + 1) steps =
          ap (λ (x : RowStep). take l.step-index steps ++ x ∷ []) c.step-item.is ∙ sym (take_more steps l.step-index item c.loop-step-test.true) in
          subst (Puts old new c.args.rows c.args.entry) more
          (puts_more old now new c.args.rows c.args.entry (take l.step-index steps) item c.in-Some.number _ (omega (arith, long, l.invariant.count)) (omega (arith, count, long)) (l.invariant.puts early)
          (c.in_ok-put_step.ensures.puts clean));
      schema = search rules;
      quiet = quiet_then g.S.Store c.args.store.now l.store c.put_step.new.store l.invariant.quiet c.put_step.ensures.quiet;
    }

pub returns-clause-puts : goal.returns-clause-puts
returns-clause-puts g c clean lines keeps count =
    subst (λ (steps : List RowStep). Keeps (g.S.Store.view c.loop-step.store).trees (lines ++ lines_of c.args.entry steps)) (take_all c.loop-step.step-index c.args.steps.now c.loop-step-test.false)
    ((c.loop-step.invariant.puts clean).keeps lines keeps count)

pub returns-clause-writes : goal.returns-clause-writes
returns-clause-writes g c clean = (c.loop-step.invariant.puts clean).writes
