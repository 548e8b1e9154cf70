-- The units that requests name, request by request.
use Rattle.std.proofs.Common.{◌≡◌, ◌∙◌, ap, sym, ℕ, ◌+◌, ◌<◌, List, [], ◌∷◌, ◌++◌, length, take, get_or}
use Rattle.std.proofs.lemmas.List.{take_more, append-nil}
use Rattle.std.proofs.lemmas.List.Concat.{flat_map-append}
use Rattle.h264_controls.specs.declared.request.Request.{Request}
use Rattle.decode_jobs.specs.Keys.{named_by, named_by_all}

-- those of one request more
pub named_more : (requests : List Request) (i : ℕ) (request : Request) → i < length requests
    → request ≡ get_or requests i request
    → named_by_all (take (i + 1) requests) ≡ named_by_all (take i requests) ++ named_by request
named_more requests i request within is =
    ap named_by_all (take_more requests i request within)
    ∙ (flat_map-append named_by (take i requests) (get_or requests i request ∷ [])
    ∙ ap (λ units. named_by_all (take i requests) ++ units)
    (append-nil (named_by (get_or requests i request)) ∙ ap named_by (sym is)))
