use Rattle.std.specs.Prelude.{◌≡◌, map, take}
use Rattle.serve_answers.specs.JobAnswers.{request_answer}
use Rattle.serve_answers.proofs.job_answers.requests.Given as goal

-- the requests so far
abbrev pub invariant-loop-request : goal.invariant-loop-request
invariant-loop-request l = l.answers.items ≡ map request_answer (take l.request-index l.requests)
