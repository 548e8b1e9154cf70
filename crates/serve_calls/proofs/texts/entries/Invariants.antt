use Rattle.std.proofs.Common.{◌≡◌, ◌++◌, drop, map}
use Rattle.serve_answers.specs.JournalAnswers.{entry_answer}
use Rattle.serve_calls.proofs.texts.entries.Given as goal

abbrev pub invariant-loop-entry : goal.invariant-loop-entry
invariant-loop-entry l = map entry_answer l.journal ≡ l.answers.items ++ map entry_answer (drop l.entry-index l.journal)
