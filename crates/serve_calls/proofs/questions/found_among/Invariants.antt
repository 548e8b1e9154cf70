use Rattle.serve_calls.specs.Answering.{IsNoneAmong}
use Rattle.serve_calls.proofs.questions.found_among.Given as goal

abbrev pub invariant-loop-at : goal.invariant-loop-at
invariant-loop-at l = IsNoneAmong l.session.register.stream l.position l.from l.at
