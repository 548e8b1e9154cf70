use Rattle.std.proofs.Common.{◌≡◌, ◌↔◌, List, All, IsTrue, false, subst}
use Rattle.session_journal.specs.declared.steps.step.RecordedStep.{RecordedStep}
use Rattle.session_journal.specs.SessionJournalKept.{is_snapshot}
use Rattle.session_journal.proofs.opening.is_first_only.Goals as goal

pub returns : goal.returns
returns c = subst (λ (steps : List RecordedStep). IsTrue c.are_no_snapshots.result ↔ All (λ step. is_snapshot step ≡ false) steps) c.others.ensures c.are_no_snapshots.ensures
