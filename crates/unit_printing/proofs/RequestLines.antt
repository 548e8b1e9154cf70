-- The lines of requests, one after the other.
use Rattle.std.proofs.Common.{◌≡◌, ◌∙◌, ◌<◌, ℕ, ◌+◌, List, [], ◌∷◌, ◌++◌, codes, decimal, length, take, get_or, ap, sym, arith, append_assoc, append-nil}
use Rattle.std.specs.List.{zip}
use Rattle.std.proofs.lemmas.List.{length-take-le, take_more}
use Rattle.h264_controls.specs.declared.request.Request.{Request}
use Rattle.unit_printing.specs.Lines.{entry_text, hold_text, list_text, lists_text, request_lines, request_text, slice_text}

-- one request more
pub request_lines-push : (id slice : ℕ) (requests : List Request) (request : Request)
    → request_lines id slice (requests ++ request ∷ []) ≡ request_lines id slice requests ++ request_text id (slice + length requests) request
request_lines-push id slice [] request =
    let same : slice + 0 ≡ slice = omega arith in
    append-nil _ ∙ ap (λ (n : ℕ). request_text id n request) (sym same)
request_lines-push id slice (first ∷ requests) request =
    let rest = request_lines-push id (slice + 1) requests request in
    let next : (slice + 1) + length requests ≡ slice + length (first ∷ requests) = omega arith in
    ap (λ text. request_text id slice first ++ text) (rw next at rest) ∙ sym (append_assoc (request_text id slice first) (request_lines id (slice + 1) requests)
    (request_text id (slice + length (first ∷ requests)) request))

-- the one after the first few
pub request_lines-more : (id i : ℕ) (requests : List Request) (request : Request) → i < length requests
    → request ≡ get_or requests i request
    → request_lines id 0 (take (i + 1) requests) ≡ request_lines id 0 (take i requests) ++ request_text id i request
request_lines-more id i requests request below is =
    let front : length (take i requests) ≡ i = length-take-le i requests (omega arith) in
    let push = request_lines-push id 0 (take i requests) request in
    let place : 0 + length (take i requests) ≡ i = omega (arith, front) in
    ap (request_lines id 0) (take_more requests i request below ∙ ap (λ one. take i requests ++ one ∷ []) (sym is)) ∙ rw place at push

-- the parts of a line
pub request_parts : (id slice : ℕ) (request : Request)
    → (codes "request " ++ decimal id) ++ (slice_text slice request.timestamp request.body.controls.slice_params.header_bit_size
    request.body.controls.slice_params.slice_type request.body.controls.decode_params.frame_num
    ++ (codes " dpb " ++ (list_text entry_text (zip request.references request.body.controls.decode_params.dpb)
    ++ (lists_text request.body.controls.slice_params.ref_pic_list0 request.body.controls.slice_params.ref_pic_list1 ++ hold_text request.hold))))
    ≡ request_text id slice request
request_parts id slice request = simp append_assoc
