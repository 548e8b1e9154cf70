use Rattle.std.proofs.Common.{◌≡◌, ◌∙◌, ap, sym, ◌++◌, ◌+◌, ◌∷◌, [], ℕ, List, take, flat_map}
use Rattle.std.proofs.lemmas.List.{take_more, append-nil}
use Rattle.std.proofs.lemmas.List.Concat.{flat_map-append}
use Rattle.h264_controls.specs.declared.request.Request.{Request}
use Rattle.picture_store.specs.Referenced.{each_once}
use Rattle.picture_store.proofs.naming.frames_of.Goals as goal

pub loop-request-preserved : goal.loop-request-preserved
loop-request-preserved c =
    let requests = c.args.requests.now in
    let at = c.loop-request.request-index in
    let request = c.request-item.result in
    let frames : Request → List ℕ = λ request. request.references in
    let front : List ℕ = flat_map frames (take at requests) in
    let taken : take (at + 1) requests ≡ take at requests ++ request ∷ [] =
    take_more requests at request c.loop-request-test.true
    ∙ ap (λ (r : Request). take at requests ++ r ∷ []) (sym c.request-item.is) in
    c.in_ok-add_frames.ensures front c.loop-request.invariant
    ∙ ap (λ (more : List ℕ). each_once (front ++ more)) (c.as_slice.ensures ∙ c.deref.ensures ∙ sym (append-nil request.references))
    ∙ ap each_once (sym (ap (flat_map frames) taken ∙ flat_map-append frames (take at requests) (request ∷ [])))
