use Rattle.std.proofs.Common.{◌≡◌, ◌++◌, drop, map}
use Rattle.serve_answers.specs.JobAnswers.{reference_answer}
use Rattle.serve_answers.proofs.job_answers.references.Given as goal

abbrev pub invariant-loop-reference : goal.invariant-loop-reference
invariant-loop-reference l = map reference_answer l.references ≡ l.answers.items ++ map reference_answer (drop l.reference-index l.references)
