use Rattle.std.proofs.Common.{◌≡◌, ◌+◌, ◌++◌, List, length, sym, ap, ◌∙◌, arith, rules}
use Rattle.edit_journal.specs.declared.line.RowStep.{RowStep}
use Rattle.edit_journal.specs.Lines.{lines_of}
use Rattle.session_journal.specs.declared.steps.step.RecordedStep.TheVariants.{Load}
use Rattle.session_journal.specs.RecordRows.{rows_of_step}
use Rattle.session_journal.specs.Records.{lines_of_steps}
use Rattle.session_journal.proofs.LineLemmas.{steps_then}
use Rattle.session_journal.proofs.steps.keeping.keep_load.Goals as goal

pub returns-in-Some-clause-added : goal.returns-in-Some-clause-added
returns-in-Some-clause-added c steps given =
    let kept : c.keep_edits.new.kept.items ≡ rows_of_step c.args.given (Load c.args.edits.now) = search rules in
    steps_then 0 1 steps (Load c.args.edits.now) c.args.given (length steps + 1) given (omega arith) ∙ ap (λ (k : List RowStep). lines_of_steps 0 1 steps ++ lines_of (length steps + 1) k) (sym kept)
