-- The lines of the requests of a picture, one after the other.
use Rattle.std.proofs.Common.{◌≡◌, ◌∙◌, ◌<◌, ℕ, ◌+◌, List, ◌++◌, length, take, get_or, nat_lt, ap, sym, arith}
use Rattle.std.proofs.lemmas.List.{length-take-le}
use Rattle.h264_types.specs.declared.pictures.counts.Counts.{Counts}
use Rattle.h264_types.specs.declared.pictures.frames.Frame.{Frame}
use Rattle.request_core.specs.Requests.{ListedSlice, request_of, requests_of}
use Rattle.request_core.proofs.Requested.{length-requests, requests-more}
use Rattle.unit_printing.specs.Lines.{request_lines, request_text}
use Rattle.unit_printing.proofs.RequestLines.{request_lines-push}

-- that of one slice more
pub picture_lines-more : (unit : ℕ) (frames : List Frame) (counts : Counts) (id : ℕ) (slices : List ListedSlice) (place : ℕ) (listed : ListedSlice)
    → place < length slices → listed ≡ get_or slices place listed
    → request_lines unit 0 (take (place + 1) (requests_of frames counts id slices))
    ≡ request_lines unit 0 (take place (requests_of frames counts id slices))
    ++ request_text unit place (request_of frames counts id listed (nat_lt (place + 1) (length slices)))
picture_lines-more unit frames counts id slices place listed below is =
    let all = requests_of frames counts id slices in
    let hold = nat_lt (place + 1) (length slices) in
    let count : length all ≡ length slices = length-requests frames counts id slices in
    let front : length (take place all) ≡ place = length-take-le place all (omega (arith, below, count)) in
    let there : 0 + length (take place all) ≡ place = omega (arith, front) in
    let push = request_lines-push unit 0 (take place all) (request_of frames counts id (get_or slices place listed) hold) in
    ap (request_lines unit 0) (requests-more frames counts id slices place listed below)
    ∙ (rw there at push)
    ∙ ap (λ item. request_lines unit 0 (take place all) ++ request_text unit place (request_of frames counts id item hold)) (sym is)
