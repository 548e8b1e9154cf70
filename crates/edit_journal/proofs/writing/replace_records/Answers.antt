use Rattle.std.proofs.Common.{◌≡◌, take, ap, sym, ◌∙◌, arith, refl}
use Rattle.std.proofs.lemmas.List.{length-take-le}
use Rattle.std.proofs.lemmas.Result.{IfErr-weaker, err_from_is_err_and}
use Rattle.sqlite_trees.specs.View.{IsClean, View}
use Rattle.edit_journal.specs.Lines.{edit_tree}
use Rattle.edit_journal.proofs.ViewLemmas.{quiet_same, writes_keep, if_ok, on_err, on_err_then}
use Rattle.edit_journal.proofs.CommitLemmas.{keeps_itself, survives_quiet, survives_before}
use Rattle.edit_journal.proofs.FaultLemmas.{fails_later, fails_table}
use Rattle.edit_journal.proofs.writing.replace_records.Goals as goal

pub returns-in_default-clause-fails : goal.returns-in_default-clause-fails
returns-in_default-clause-fails g c clean = fails_table g.S.Store c.args.store.now c.args.store.now _ (λ is. c.in_default.not-Table (c.shape.ensures ∙ is))

pub returns-in_err-delete_rows-clause-fails : goal.returns-in_err-delete_rows-clause-fails
returns-in_err-delete_rows-clause-fails g c clean =
    let p = err_from_is_err_and c.from_residual.result c.from_residual.ensures.1 in
    rw (p.1, p.2) (fails_later g.S.Store c.args.store.now c.args.store.now c.delete_rows.new.store _ _ _ (omega arith) refl refl (λ h. absurd h) (c.in_err-delete_rows.ensures.fails clean))

pub returns-clause-fails : goal.returns-clause-fails
returns-clause-fails g c clean =
    let old = g.S.Store.view c.args.store.now in
    let mid = g.S.Store.view c.delete_rows.new.store in
    let early : IsClean mid = omega (arith, c.commit_record.ensures.survives.clean, clean) in
    let writes = c.in_ok-delete_rows.ensures.writes early in
    let reals : mid.reals edit_tree ≡ old.reals edit_tree = ap (λ (v : View). v.reals edit_tree) writes in
    IfErr-weaker c.commit_record.result _ _
    (λ fault fails. fails_later g.S.Store c.args.store.now c.delete_rows.new.store c.commit_record.new.store _ _ fault c.delete_rows.ensures.quiet.counts (ap (λ (v : View). v.shape) writes)
    (ap (λ (v : View). v.is_broken) writes) (λ too_large fits. too_large (rw reals fits)) fails)
    (c.commit_record.ensures.fails clean)

pub returns-in_default-clause-keeps : goal.returns-in_default-clause-keeps
returns-in_default-clause-keeps g c clean = keeps_itself (g.S.Store.view c.args.store.now)

pub returns-in_default-clause-survives : goal.returns-in_default-clause-survives
returns-in_default-clause-survives g c = survives_quiet g.S.Store _ c.args.store.now c.args.store.now (quiet_same g.S.Store c.args.store.now)

pub returns-in_err-delete_rows-clause-keeps : goal.returns-in_err-delete_rows-clause-keeps
returns-in_err-delete_rows-clause-keeps g c clean = on_err c.from_residual.result _ (c.in_err-delete_rows.ensures.keeps clean)

pub returns-in_err-delete_rows-clause-survives : goal.returns-in_err-delete_rows-clause-survives
returns-in_err-delete_rows-clause-survives g c = survives_quiet g.S.Store _ c.args.store.now c.delete_rows.new.store c.delete_rows.ensures.quiet

pub returns-clause-replaces : goal.returns-clause-replaces
returns-clause-replaces g c clean =
    let early : IsClean (g.S.Store.view c.delete_rows.new.store) = omega (arith, c.commit_record.ensures.survives.clean, clean) in
    if_ok c.commit_record.result _ _ (λ after adds lines less shows. adds (take c.args.left lines) (record { now = c.in_ok-delete_rows.ensures.deletes early lines shows.now shows.count; count = sym (length-take-le c.args.left lines (omega (arith, less, shows.count))) })) (c.commit_record.ensures.adds clean)

pub returns-clause-keeps : goal.returns-clause-keeps
returns-clause-keeps g c clean =
    let old = g.S.Store.view c.args.store.now in
    let mid = g.S.Store.view c.delete_rows.new.store in
    let new = g.S.Store.view c.commit_record.new.store in
    let early : IsClean mid = omega (arith, c.commit_record.ensures.survives.clean, clean) in
    on_err_then c.commit_record.result _ _ (writes_keep old mid new (c.in_ok-delete_rows.ensures.writes early)) (c.commit_record.ensures.keeps clean)

pub returns-clause-survives : goal.returns-clause-survives
returns-clause-survives g c =
    survives_before g.S.Store _ _ c.args.store.now c.delete_rows.new.store c.commit_record.new.store c.delete_rows.ensures.quiet c.commit_record.ensures.survives
    (λ early db adds lines less shows. adds (take c.args.left lines) (record { now = c.in_ok-delete_rows.ensures.deletes early lines shows.now shows.count; count = sym (length-take-le c.args.left lines (omega (arith, less, shows.count))) }))
