use Rattle.std.proofs.Common.{◌∙◌, ◌∷◌, [], ◌++◌, ap, sym, map, take}
use Rattle.std.proofs.lemmas.List.{map_more}
use Rattle.unit_printing.specs.RequestsJson.{request_json}
use Rattle.unit_printing.proofs.json.request_json.objects.Goals as goal

pub loop-request-preserved : goal.loop-request-preserved
loop-request-preserved c =
    let requests = c.args.requests.now in
    let place = c.loop-request.request-index in
    let request = c.request-item.result in
    let more = map_more request_json requests place request c.loop-request-test.true in
    let object = c.of.ensures ∙ ap request_json c.request-item.is in
    c.in_ok-push.ensures.items
    ∙ (ap (λ l. l ++ c.of.result ∷ []) c.loop-request.invariant
    ∙ (ap (λ x. map request_json (take place requests) ++ x ∷ []) object ∙ sym more))
