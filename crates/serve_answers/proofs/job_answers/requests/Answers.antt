use Rattle.std.proofs.Common.{◌∙◌, ◌∷◌, [], ◌++◌, ap, sym, map, take}
use Rattle.std.proofs.lemmas.List.{map_more}
use Rattle.serve_answers.specs.JobAnswers.{request_answer}
use Rattle.serve_answers.proofs.job_answers.requests.Goals as goal

pub loop-request-preserved : goal.loop-request-preserved
loop-request-preserved c =
    let requests = c.args.requests.now in
    let place = c.loop-request.request-index in
    let request = c.request-item.result in
    let more = map_more request_answer requests place request c.loop-request-test.true in
    let answer = c.in_ok-of.ensures ∙ ap request_answer c.request-item.is in
    c.in_ok-push.ensures.items
    ∙ (ap (λ l. l ++ c.in_ok-of.field-0 ∷ []) c.loop-request.invariant
    ∙ (ap (λ x. map request_answer (take place requests) ++ x ∷ []) answer ∙ sym more))
