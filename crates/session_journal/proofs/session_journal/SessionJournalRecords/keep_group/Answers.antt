use Rattle.std.proofs.Common.{◌≡◌, rules}
use Rattle.session_journal.specs.declared.steps.step.RecordedStep.TheVariants.{Edits}
use Rattle.session_journal.specs.RecordRows.{rows_of_step}
use Rattle.session_journal.proofs.session_journal.SessionJournalRecords.keep_group.Goals as goal

pub returns-in-Some-clause-leaves : goal.returns-in-Some-clause-leaves
returns-in-Some-clause-leaves g c =
    let rows : c.deref.result.now ≡ rows_of_step c.args.self.now.given (Edits c.args.edits.now) = search rules in
    c.keep.ensures.leaves (Edits c.args.edits.now) rows
