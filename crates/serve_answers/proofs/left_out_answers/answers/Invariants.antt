use Rattle.std.proofs.Common.{◌≡◌, ◌++◌, drop, map}
use Rattle.serve_answers.specs.LeftOutAnswers.{left_out_answer}
use Rattle.serve_answers.proofs.left_out_answers.answers.Given as goal

abbrev pub invariant-loop-one : goal.invariant-loop-one
invariant-loop-one l = map left_out_answer l.left_out ≡ l.answers.items ++ map left_out_answer (drop l.one-index l.left_out)
