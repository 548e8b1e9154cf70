-- The texts of pairs, one after the other.
use Rattle.std.proofs.Common.{◌≡◌, ◌∙◌, ◌<◌, ℕ, ◌+◌, List, [], ◌∷◌, ◌++◌, flat_map, length, take, get_or, ap, sym, arith, append-nil}
use Rattle.std.specs.List.{zip}
use Rattle.std.proofs.lemmas.List.{take_more}
use Rattle.std.proofs.lemmas.Grind.{flat_map-append}
use Rattle.std.proofs.lemmas.Slice.Zip.{length-zip, get_or-zip}

-- one pair more
pub pairs-more : {A B : Type 0} (text : A × B → List ℕ) (xs : List A) (ys : List B) (i : ℕ) (x : A) (y : B) → i < length xs → i < length ys
    → x ≡ get_or xs i x → y ≡ get_or ys i y
    → flat_map text (take (i + 1) (zip xs ys)) ≡ flat_map text (take i (zip xs ys)) ++ text (x, y)
pairs-more text xs ys i x y below within x_is y_is =
    let inside : i < length (zip xs ys) = omega (arith, length-zip xs ys) in
    let read = get_or-zip xs ys i (x, y) below within in
    let pair = read ∙ (ap (λ a. (a, get_or ys i y)) (sym x_is) ∙ ap (λ b. (x, b)) (sym y_is)) in
    ap (flat_map text) (take_more (zip xs ys) i (x, y) inside ∙ ap (λ p. take i (zip xs ys) ++ p ∷ []) pair)
    ∙ (flat_map-append text (take i (zip xs ys)) ((x, y) ∷ []) ∙ ap (λ last. flat_map text (take i (zip xs ys)) ++ last) (append-nil (text (x, y))))
