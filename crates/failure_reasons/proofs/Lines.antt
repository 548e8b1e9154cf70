-- Lines for files, one after the other.
use Rattle.std.proofs.Common.{◌≡◌, ◌<◌, ◌+◌, ℕ, List, [], ◌∷◌, ◌++◌, length, take, get_or, Bor, refl, sym, ◌∙◌, ap, append_assoc, append-nil}
use Rattle.std.proofs.lemmas.List.{map_more, take-map}
use Rattle.console_io.specs.Inputs.{Files}
use Rattle.edit_script.specs.Words.{texts_of}
use Rattle.failure_reasons.specs.FailureReasonsLines.{AreFileLines, MayHaveLoad}

-- a lent text
abbrev pub text_of : Bor (List ℕ) → List ℕ
text_of word = word.now

-- lines for one more name
lines-push : (files : Files) (names : List (List ℕ)) (lines : List ℕ) → AreFileLines files names lines
    → (name line : List ℕ) → MayHaveLoad (files name) name line → AreFileLines files (names ++ name ∷ []) (lines ++ line)
lines-push files [] lines none name line may =
    (line, [], may, refl, ap (λ (l : List ℕ). l ++ line) none ∙ sym (append-nil line))
lines-push files (first ∷ names) lines said name line may =
    let rest = lines-push files names said.1 said.3 name line may in
    (said.0, said.1 ++ line, said.2, rest, ap (λ (l : List ℕ). l ++ line) said.4 ∙ append_assoc said.0 said.1 line)

-- those for the names up to a place, and for the one there
pub lines_more : (files : Files) (names : List (Bor (List ℕ))) (i : ℕ) (d : Bor (List ℕ)) → i < length names
    → (lines more line : List ℕ) → AreFileLines files (texts_of (take i names)) lines
    → MayHaveLoad (files (get_or names i d).now) (get_or names i d).now line → more ≡ lines ++ line
    → AreFileLines files (texts_of (take (i + 1) names)) more
lines_more files names i d below lines more line said may is =
    rw (is, map_more text_of names i d below) (lines-push files (texts_of (take i names)) lines said _ line may)

-- those for the first names, which are those of the texts
pub lines_taken : (files : Files) (names : List (Bor (List ℕ))) (count : ℕ) (lines : List ℕ)
    → AreFileLines files (texts_of (take count names)) lines → AreFileLines files (take count (texts_of names)) lines
lines_taken files names count lines said = rw (take-map text_of count names) said
