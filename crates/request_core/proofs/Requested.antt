-- The requests of a picture, one by one.
use Rattle.std.proofs.Common.{◌≡◌, ℕ, zero, suc, ◌+◌, ◌<◌, ◌≤◌, List, [], ◌∷◌, ◌++◌, length, take, get_or, nat_lt, true, ⊎_elim, arith, refl, ap, sym, ◌∙◌}
use Rattle.std.proofs.lemmas.Bool.{lt-ltb, le-ltb, cases_lt}
use Rattle.h264_types.specs.declared.pictures.counts.Counts.{Counts}
use Rattle.h264_types.specs.declared.pictures.frames.Frame.{Frame}
use Rattle.request_core.specs.Requests.{ListedSlice, request_of, requests_of}

-- a place and a length, one more each
shifted : (place count : ℕ) → nat_lt (suc place) (suc count) ≡ nat_lt (suc (suc place)) (suc (suc count))
shifted place count = ⊎_elim
    (λ below. lt-ltb (suc place) (suc count) below ∙ sym (lt-ltb (suc (suc place)) (suc (suc count)) (omega arith)))
    (λ above. le-ltb (suc place) (suc count) above ∙ sym (le-ltb (suc (suc place)) (suc (suc count)) (omega arith)))
    (cases_lt (suc place) (suc count))

none : (n m : ℕ) → n < m → m ≤ n → ⊥
none n m below above = omega arith

next : (frames : List Frame) (counts : Counts) (id : ℕ) (slices : List ListedSlice) (place : ℕ) (default : ListedSlice) → place < length slices
    → take (suc place) (requests_of frames counts id slices)
    ≡ take place (requests_of frames counts id slices) ++ request_of frames counts id (get_or slices place default) (nat_lt (suc place) (length slices)) ∷ []
next frames counts id [] place default h = absurd (none place 0 h (omega arith))
next frames counts id (last ∷ []) zero default h = refl
next frames counts id (last ∷ []) (suc place) default h = absurd (none (suc place) 1 h (omega arith))
next frames counts id (first ∷ second ∷ more) zero default h =
    ap (λ hold. request_of frames counts id first hold ∷ []) (sym (lt-ltb 1 (length (first ∷ second ∷ more)) (omega arith)))
next frames counts id (first ∷ second ∷ more) (suc place) default h =
    ap (λ requests. request_of frames counts id first true ∷ requests) (next frames counts id (second ∷ more) place default (omega arith))
    ∙ ap (λ hold. request_of frames counts id first true ∷ (take place (requests_of frames counts id (second ∷ more)) ++ request_of frames counts id (get_or (second ∷ more) place default) hold ∷ [])) (shifted place (length more))

-- the requests up to a place, with that of the slice there
pub requests-more : (frames : List Frame) (counts : Counts) (id : ℕ) (slices : List ListedSlice) (place : ℕ) (default : ListedSlice) → place < length slices
    → take (place + 1) (requests_of frames counts id slices)
    ≡ take place (requests_of frames counts id slices) ++ request_of frames counts id (get_or slices place default) (nat_lt (place + 1) (length slices)) ∷ []
requests-more frames counts id slices place default h =
    let one : place + 1 ≡ suc place = omega arith in
    ap (λ n. take n (requests_of frames counts id slices)) one ∙ (next frames counts id slices place default h
    ∙ ap (λ n. take place (requests_of frames counts id slices) ++ request_of frames counts id (get_or slices place default) (nat_lt n (length slices)) ∷ []) (sym one))

-- as many as there are slices
pub length-requests : (frames : List Frame) (counts : Counts) (id : ℕ) (slices : List ListedSlice) → length (requests_of frames counts id slices) ≡ length slices
length-requests frames counts id [] = refl
length-requests frames counts id (last ∷ []) = refl
length-requests frames counts id (first ∷ next ∷ more) = ap suc (length-requests frames counts id (next ∷ more))
