use Rattle.std.proofs.Common.{◌≡◌, ◌+◌, ◌++◌, ◌∷◌, [], List, length, map, refl, sym, ap, ◌∙◌, arith, rules}
use Rattle.edit_journal.specs.declared.line.RowStep.{RowStep}
use Rattle.edit_journal.specs.Lines.{lines_of}
use Rattle.session_journal.specs.declared.steps.step.RecordedStep.TheVariants.{Snapshot}
use Rattle.session_journal.specs.RecordRows.{row_of_given, row_of_unit}
use Rattle.session_journal.specs.Records.{given_by_steps, lines_of_steps}
use Rattle.session_journal.proofs.LineLemmas.{steps_then}
use Rattle.session_journal.proofs.steps.keeping.keep_snapshot.Goals as goal

pub returns-clause-added : goal.returns-clause-added
returns-clause-added c steps =
    let s = c.args.snapshot.now in
    let kept : c.push.new.self.items ≡ map row_of_unit s.units ++ row_of_given s.ids_given ∷ [] = search rules in
    steps_then 0 1 steps (Snapshot s) (given_by_steps 0 steps) (length steps + 1) refl (omega arith) ∙ ap (λ (k : List RowStep). lines_of_steps 0 1 steps ++ lines_of (length steps + 1) k) (sym kept)
