use Rattle.std.proofs.Common.{◌≡◌, ◌∙◌, ◌+◌, ◌∷◌, [], ◌++◌, take, ap, sym, flat_map}
use Rattle.std.proofs.lemmas.Grind.{flat_map-append}
use Rattle.std.proofs.lemmas.List.{append-nil, take_more}
use Rattle.h264_controls.specs.declared.request.Request.{Request}
use Rattle.draw_run.specs.Lists.{named_of}
use Rattle.draw_run.proofs.unit_drawing.lists.references_of.Goals as goal

pub loop-request-preserved : goal.loop-request-preserved
loop-request-preserved c =
    let requests = c.args.requests.now in
    let at = c.loop-request.request-index in
    let request = c.request-item.result in
    let old = flat_map named_of (take at requests) in
    let longer : flat_map named_of (take (at + 1) requests) ≡ old ++ named_of request =
    ap (flat_map named_of) (take_more requests at request c.loop-request-test.true ∙ ap (λ (r : Request). take at requests ++ r ∷ []) (sym c.request-item.is))
    ∙ flat_map-append named_of (take at requests) (request ∷ []) ∙ ap (λ l. old ++ l) (append-nil (named_of request)) in
    rw longer (c.in_ok-add_slice.ensures old c.loop-request.invariant)
