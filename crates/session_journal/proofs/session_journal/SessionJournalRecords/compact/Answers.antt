use Rattle.std.proofs.Common.{◌≡◌, ◌∷◌, [], ◌∙◌}
use Rattle.session_journal.specs.declared.steps.step.RecordedStep.TheVariants.{Snapshot}
use Rattle.session_journal.specs.RecordRows.{rows_of_step}
use Rattle.session_journal.proofs.KeepLemmas.{record_of}
use Rattle.session_journal.proofs.session_journal.SessionJournalRecords.compact.Goals as goal

pub returns-clause-compacted : goal.returns-clause-compacted
returns-clause-compacted g c =
    let rows : c.deref.result.now ≡ rows_of_step 0 (Snapshot c.args.snapshot.now) = c.deref.ensures.value ∙ c.in_ok-rows.ensures.kept 0 in
    c.rewrite.ensures.replaced (Snapshot c.args.snapshot.now ∷ []) (record_of c.args.snapshot.now c.deref.result.now c.ids_given.result rows c.ids_given.ensures)

pub returns-clause-leaves : goal.returns-clause-leaves
returns-clause-leaves g c =
    let rows : c.deref.result.now ≡ rows_of_step 0 (Snapshot c.args.snapshot.now) = c.deref.ensures.value ∙ c.in_ok-rows.ensures.kept 0 in
    c.rewrite.ensures.leaves (Snapshot c.args.snapshot.now ∷ []) (record_of c.args.snapshot.now c.deref.result.now c.ids_given.result rows c.ids_given.ensures)
