use Rattle.std.proofs.Common.{◌≡◌, rules}
use Rattle.session_journal.specs.declared.steps.step.RecordedStep.TheVariants.{Load}
use Rattle.session_journal.specs.RecordRows.{rows_of_step}
use Rattle.session_journal.proofs.session_journal.SessionJournalRecords.keep_load.Goals as goal

pub returns-in-Some-clause-leaves : goal.returns-in-Some-clause-leaves
returns-in-Some-clause-leaves g c =
    let rows : c.deref-in-Some.result.now ≡ rows_of_step c.args.self.now.given (Load c.args.edits.items) = search rules in
    c.keep.ensures.leaves (Load c.args.edits.items) rows
