-- The lines of a text, numbered one after the other.
use Rattle.std.proofs.Common.{◌≡◌, ◌<◌, ◌≤◌, ◌+◌, ℕ, true, false, List, ◌∷◌, [], ◌++◌, length, drop, get_or, Bor, append-nil, append_assoc, refl, sym, ◌∙◌, ap}
use Rattle.std.specs.List.{filter}
use Rattle.std.proofs.lemmas.List.{drop_more, drop_all, map_push}
use Rattle.edit_script.specs.Lines.{numbered_of}
use Rattle.edit_script.specs.Scripts.{is_read, is_skipped, numbered_from}
use Rattle.edit_script.specs.Words.{texts_of}

-- what is read of the lines from this place on
abbrev pub left_from : List (Bor (List ℕ)) → ℕ → List (ℕ × List ℕ)
left_from lines i = filter is_read (numbered_from (i + 1) (texts_of (drop i lines)))

-- a line more
pub push-read : (done : List (ℕ × Bor (List ℕ))) (line : ℕ × Bor (List ℕ)) (rest : List (ℕ × List ℕ))
    → numbered_of (done ++ line ∷ []) ++ rest ≡ numbered_of done ++ (line.0, line.1.now) ∷ rest
push-read done line rest =
    let numbered : ℕ × Bor (List ℕ) → ℕ × List ℕ = λ it. (it.0, it.1.now) in
    rw (map_push numbered done line, append_assoc) refl

-- a line more that is read
pub more-read : (lines : List (Bor (List ℕ))) (i : ℕ) (d : Bor (List ℕ)) → i < length lines
    → is_skipped (get_or lines i d).now ≡ false → (done : List (ℕ × Bor (List ℕ))) (all : List (ℕ × List ℕ))
    → numbered_of done ++ left_from lines i ≡ all
    → numbered_of (done ++ (i + 1, get_or lines i d) ∷ []) ++ left_from lines (i + 1) ≡ all
more-read lines i d below kept done all so_far =
    let here : left_from lines i ≡ (i + 1, (get_or lines i d).now) ∷ left_from lines (i + 1) =
    rw (drop_more lines i d below, kept) refl in
    push-read done (i + 1, get_or lines i d) (left_from lines (i + 1)) ∙ ap (λ rest. numbered_of done ++ rest) (sym here)
    ∙ so_far

-- a line more that is skipped
pub more-skipped : (lines : List (Bor (List ℕ))) (i : ℕ) (d : Bor (List ℕ)) → i < length lines
    → is_skipped (get_or lines i d).now ≡ true → left_from lines (i + 1) ≡ left_from lines i
more-skipped lines i d below skipped = rw (drop_more lines i d below, skipped) refl

-- none is left
pub all-read : (lines : List (Bor (List ℕ))) (i : ℕ) → length lines ≤ i → (done all : List (ℕ × List ℕ))
    → done ++ left_from lines i ≡ all → done ≡ all
all-read lines i past done all so_far =
    let here : left_from lines i ≡ [] = rw (drop_all i lines past) refl in
    sym (append-nil done) ∙ ap (λ rest. done ++ rest) (sym here) ∙ so_far
