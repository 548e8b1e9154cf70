use Rattle.std.proofs.Common.{◌≡◌, ◌++◌, length, ap, ◌∙◌, length-append, arith}
use Rattle.std.proofs.lemmas.Result.{err_from_is_err_and}
use Rattle.sqlite_trees.specs.View.{IsClean, View}
use Rattle.edit_journal.specs.Lines.{lines_of}
use Rattle.edit_journal.proofs.RowLemmas.{length-lines_from}
use Rattle.edit_journal.proofs.ViewLemmas.{quiet_same, writes_keep, on_err}
use Rattle.edit_journal.proofs.CommitLemmas.{keeps_itself, rolled_keeps, commit_lasts, survives_quiet, survives_commit}
use Rattle.edit_journal.proofs.FaultLemmas.{fails_later, fails_of, fails_table}
use Rattle.edit_journal.proofs.writing.commit_record.Goals as goal

pub returns-in_default-clause-fails : goal.returns-in_default-clause-fails
returns-in_default-clause-fails g c clean = fails_table g.S.Store c.args.store.now c.args.store.now _ (λ is. c.in_default.not-Table (c.shape.ensures ∙ is))

pub returns-in_err-after-clause-fails : goal.returns-in_err-after-clause-fails
returns-in_err-after-clause-fails g c clean =
    let p = err_from_is_err_and c.from_residual.result c.from_residual.ensures.1 in
    rw (p.1, p.2) (c.in_err-after.ensures.fails clean)

pub returns-in_err-commit-clause-fails : goal.returns-in_err-commit-clause-fails
returns-in_err-commit-clause-fails g c clean =
    let p = err_from_is_err_and c.from_residual-in_err-commit.result c.from_residual-in_err-commit.ensures.1 in
    let mid = c.put_steps.new.store in
    let early : IsClean (g.S.Store.view mid) = omega (arith, c.commit.ensures.clean, clean) in
    let writes = c.in_ok-after.ensures.writes early in
    let failed = fails_of g.S.Store mid c.commit.new.self _ _ (c.in_err-commit.ensures.cause clean) c.in_err-commit.ensures.told in
    rw (p.1, p.2) (fails_later g.S.Store c.args.store.now mid c.commit.new.self _ _ _ c.put_steps.ensures.quiet.counts (ap (λ (v : View). v.shape) writes) (ap (λ (v : View). v.is_broken) writes) (λ h. absurd h) failed)

pub returns-in_default-clause-keeps : goal.returns-in_default-clause-keeps
returns-in_default-clause-keeps g c clean = keeps_itself (g.S.Store.view c.args.store.now)

pub returns-in_default-clause-survives : goal.returns-in_default-clause-survives
returns-in_default-clause-survives g c = survives_quiet g.S.Store _ c.args.store.now c.args.store.now (quiet_same g.S.Store c.args.store.now)

pub returns-in_err-after-clause-keeps : goal.returns-in_err-after-clause-keeps
returns-in_err-after-clause-keeps g c clean = on_err c.from_residual.result _ (c.in_err-after.ensures.keeps clean)

pub returns-in_err-after-clause-survives : goal.returns-in_err-after-clause-survives
returns-in_err-after-clause-survives g c = survives_quiet g.S.Store _ c.args.store.now c.put_steps.new.store c.put_steps.ensures.quiet

pub returns-in_err-commit-clause-keeps : goal.returns-in_err-commit-clause-keeps
returns-in_err-commit-clause-keeps g c clean =
    let old = g.S.Store.view c.args.store.now in
    let mid = g.S.Store.view c.put_steps.new.store in
    let new = g.S.Store.view c.commit.new.self in
    let early : IsClean mid = omega (arith, c.commit.ensures.clean, clean) in
    on_err c.from_residual-in_err-commit.result _ (writes_keep old mid new (c.in_ok-after.ensures.writes early) (rolled_keeps mid new clean c.in_err-commit.ensures.err))

pub returns-in_err-commit-clause-survives : goal.returns-in_err-commit-clause-survives
returns-in_err-commit-clause-survives g c =
    survives_commit g.S.Store _ c.args.store.now c.put_steps.new.store c.commit.new.self c.put_steps.ensures.quiet c.commit.ensures.clean c.commit.ensures.counts
    c.commit.ensures.open c.commit.ensures.crash (λ clean lines shows. c.in_ok-after.ensures.puts clean lines shows.now shows.count)

pub returns-clause-survives : goal.returns-clause-survives
returns-clause-survives g c =
    survives_commit g.S.Store _ c.args.store.now c.put_steps.new.store c.commit.new.self c.put_steps.ensures.quiet c.commit.ensures.clean c.commit.ensures.counts
    c.commit.ensures.open c.commit.ensures.crash (λ clean lines shows. c.in_ok-after.ensures.puts clean lines shows.now shows.count)

pub returns-clause-adds : goal.returns-clause-adds
returns-clause-adds g c clean lines shows =
    let mid = c.put_steps.new.store in
    let new = c.commit.new.self in
    let early : IsClean (g.S.Store.view mid) = omega (arith, c.commit.ensures.clean, clean) in
    let more = lines_of c.args.entry c.args.steps.now in
    let count : c.in_ok-after.after ≡ length (lines ++ more) =
    omega (arith, c.in_ok-after.ensures.count, shows.count, length-append lines more, length-lines_from c.args.entry 0 c.args.steps.now) in
    commit_lasts g.S.Store mid new c.in_ok-after.after (lines ++ more) (c.in_ok-commit.ensures.ok clean) (c.in_ok-after.ensures.puts early lines shows.now shows.count) count
    (g.met.S.Store.broken_if_shut new) (λ db. g.met.S.Store.settled new db)
