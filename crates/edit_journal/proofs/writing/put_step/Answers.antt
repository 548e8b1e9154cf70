use Rattle.std.proofs.Common.{refl, sym, subst, arith}
use Rattle.std.proofs.lemmas.Result.{err_from_is_err_and}
use Rattle.sqlite_trees.specs.View.{IsStorableRow}
use Rattle.edit_journal.specs.Lines.{edit_tree}
use Rattle.edit_journal.proofs.FaultLemmas.{fails_later, fails_memory, fails_of}
use Rattle.edit_journal.proofs.writing.put_step.Goals as goal

pub returns-in_err-write_row-clause-fails : goal.returns-in_err-write_row-clause-fails
returns-in_err-write_row-clause-fails g c clean =
    let p = err_from_is_err_and c.from_residual.result c.from_residual.ensures.1 in
    rw (p.1, p.2) (fails_memory g.S.Store c.args.store.now c.args.store.now _)

pub returns-in_err-put-clause-fails : goal.returns-in_err-put-clause-fails
returns-in_err-put-clause-fails g c clean =
    let p = err_from_is_err_and c.from_residual-in_err-put.result c.from_residual-in_err-put.ensures.1 in
    let old = c.args.store.now in
    let reals = (g.S.Store.view old).reals edit_tree in
    let failed = fails_of g.S.Store old c.put.new.self _ _ (c.in_err-put.ensures.cause clean) c.in_err-put.ensures.told in
    rw (p.1, p.2) (fails_later g.S.Store old old c.put.new.self _ _ _ (omega arith) refl refl (λ not_stored stored. not_stored (subst (IsStorableRow reals) (sym c.in_ok-write_row.ensures) stored)) failed)
