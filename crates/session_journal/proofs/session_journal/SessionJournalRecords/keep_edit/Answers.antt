use Rattle.std.proofs.Common.{◌≡◌, ◌∷◌, [], List, subst, rules}
use Rattle.stream_edits.specs.declared.edits.Edit.{Edit}
use Rattle.session_journal.specs.declared.steps.step.RecordedStep.TheVariants.{Edits}
use Rattle.session_journal.specs.SessionJournalKept.{LeavesOr}
use Rattle.session_journal.specs.Standing.{CrashLeaves, Standing}
use Rattle.session_journal.proofs.session_journal.SessionJournalRecords.keep_edit.Goals as goal

pub returns-clause-leaves : goal.returns-clause-leaves
returns-clause-leaves g c =
    let one : c.from_ref.result.now ≡ c.args.edit.now ∷ [] = search rules in
    subst (λ (edits : List Edit). LeavesOr (CrashLeaves g.S.Store c.args.self.now.journal) (Standing g.S.Store c.args.self.now) (Edits edits) (CrashLeaves g.S.Store c.keep_group.new.self.journal)) one
    c.keep_group.ensures.leaves
