use Rattle.std.proofs.Common.{◌≡◌, ◌++◌, drop, map}
use Rattle.serve_answers.specs.JournalAnswers.{edit_answer}
use Rattle.serve_answers.proofs.journal_answers.edits.Given as goal

abbrev pub invariant-loop-edit : goal.invariant-loop-edit
invariant-loop-edit l = map edit_answer l.edits ≡ l.answers.items ++ map edit_answer (drop l.edit-index l.edits)
