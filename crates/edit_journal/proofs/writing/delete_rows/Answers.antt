use Rattle.std.proofs.Common.{refl, ap, arith, rules}
use Rattle.std.proofs.lemmas.Result.{err_from_is_err_and}
use Rattle.sqlite_trees.specs.View.{IsClean, View}
use Rattle.edit_journal.proofs.ViewLemmas.{deletes_nothing, deletes_more, deletes_all, quiet_same, quiet_then, writes_keep, on_err}
use Rattle.edit_journal.proofs.CommitLemmas.{failed_keeps}
use Rattle.edit_journal.proofs.FaultLemmas.{fails_later, fails_of}
use Rattle.edit_journal.proofs.writing.delete_rows.Goals as goal

pub loop-deleted-init : goal.loop-deleted-init
loop-deleted-init g c = record {
  deletes = λ _. deletes_nothing (g.S.Store.view c.args.store.now) c.args.rows c.args.left;
  schema = record { shape = refl; reals = refl; committed_shape = refl; committed_reals = refl; numbered = refl };
  quiet = quiet_same g.S.Store c.args.store.now;
}

pub returns-in_err-delete-clause-keeps : goal.returns-in_err-delete-clause-keeps
returns-in_err-delete-clause-keeps g c clean =
    let early : IsClean (g.S.Store.view c.loop-deleted.store) = omega (arith, c.delete.ensures.quiet.clean, clean) in
    on_err c.from_residual.result _
    (writes_keep (g.S.Store.view c.args.store.now) (g.S.Store.view c.loop-deleted.store) (g.S.Store.view c.delete.new.self) (c.loop-deleted.invariant.deletes early).writes
    (failed_keeps (g.S.Store.view c.loop-deleted.store) (g.S.Store.view c.delete.new.self) _ c.in_err-delete.ensures.err))

pub returns-in_err-delete-clause-fails : goal.returns-in_err-delete-clause-fails
returns-in_err-delete-clause-fails g c clean =
    let p = err_from_is_err_and c.from_residual.result c.from_residual.ensures.1 in
    let l = c.loop-deleted in
    let early : IsClean (g.S.Store.view l.store) = omega (arith, c.delete.ensures.quiet.clean, clean) in
    let writes = (l.invariant.deletes early).writes in
    let failed = fails_of g.S.Store l.store c.delete.new.self _ _ (c.in_err-delete.ensures.cause clean) c.in_err-delete.ensures.told in
    rw (p.1, p.2) (fails_later g.S.Store c.args.store.now l.store c.delete.new.self _ _ _ l.invariant.quiet.counts (ap (λ (v : View). v.shape) writes) (ap (λ (v : View). v.is_broken) writes) (λ h. h) failed)

pub loop-deleted-preserved : goal.loop-deleted-preserved
loop-deleted-preserved g c =
    let l = c.loop-deleted in
    let old = g.S.Store.view c.args.store.now in
    let now = g.S.Store.view l.store in
    let new = g.S.Store.view c.delete.new.self in
    record {
      deletes = λ clean.
          let early : IsClean now = omega (arith, c.delete.ensures.quiet.clean, clean) in
          deletes_more old now new c.args.rows c.args.left l.deleted _ (omega arith) (l.invariant.deletes early) (c.in_ok-delete.ensures.ok clean) (search rules);
      schema = search rules;
      quiet = quiet_then g.S.Store c.args.store.now l.store c.delete.new.self l.invariant.quiet c.delete.ensures.quiet;
    }

pub returns-clause-deletes : goal.returns-clause-deletes
returns-clause-deletes g c clean =
    let old = g.S.Store.view c.args.store.now in
    let now = g.S.Store.view c.loop-deleted.store in
    deletes_all old now c.args.rows c.args.left c.loop-deleted.deleted (omega (arith, c.loop-deleted-test.false)) (c.loop-deleted.invariant.deletes clean)

pub returns-clause-writes : goal.returns-clause-writes
returns-clause-writes g c clean = (c.loop-deleted.invariant.deletes clean).writes
