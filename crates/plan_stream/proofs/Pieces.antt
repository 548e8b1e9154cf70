-- Pieces of a text: one more at its end, and the piece at a place.
use Rattle.std.proofs.Common.{◌≡◌, ◌∙◌, ◌<◌, ◌≤◌, ℕ, zero, suc, ◌+◌, ◌-◌, List, [], ◌∷◌, ◌++◌, length, take, drop, get_or, refl, ap, sym, arith, length-append}
use Rattle.std.proofs.lemmas.List.{drop-append-le, drop_all, length-drop, take-append-le, take_all}
use Rattle.plan_stream.specs.Pieces.{AreEnds, pieces, starts}

-- each piece ends within the text
ends_within : (start : ℕ) (ends text : List ℕ) → AreEnds start ends text → start ≤ length text
ends_within start [] text are = omega (arith, are)
ends_within start (end ∷ ends) text are = omega (arith, are.0, ends_within end ends text are.1)

-- one piece more
pub ends-push : (start : ℕ) (ends text more : List ℕ) → AreEnds start ends text → AreEnds start (ends ++ (length text + length more) ∷ []) (text ++ more)
ends-push start [] text more are = (omega (arith, are), sym (length-append text more))
ends-push start (end ∷ ends) text more are = (are.0, ends-push end ends text more are.1)

pub pieces-push : (start : ℕ) (ends text more : List ℕ) → AreEnds start ends text
    → pieces start (ends ++ (length text + length more) ∷ []) (text ++ more) ≡ pieces start ends text ++ more ∷ []
pieces-push start [] text more are =
    let rest : drop start (text ++ more) ≡ more =
    drop-append-le start text more (omega (arith, are)) ∙ ap (λ l. l ++ more) (drop_all start text (omega (arith, are))) in
    ap (λ piece. piece ∷ []) (ap (take ((length text + length more) - start)) rest ∙ take_all ((length text + length more) - start) more (omega (arith, are)))
pieces-push start (end ∷ ends) text more are =
    let within = ends_within end ends text are.1 in
    let rest = drop-append-le start text more (omega (arith, are.0, within)) in
    let same = take-append-le (end - start) (drop start text) more (omega (arith, length-drop start text, are.0, within)) in
    ap (λ piece. piece ∷ pieces end (ends ++ (length text + length more) ∷ []) (text ++ more)) (ap (take (end - start)) rest ∙ same)
    ∙ ap (λ others. take (end - start) (drop start text) ∷ others) (pieces-push end ends text more are.1)

starts-next : (start end : ℕ) (ends : List ℕ) (place : ℕ) → starts end ends place ≡ starts start (end ∷ ends) (suc place)
starts-next start end ends zero = refl
starts-next start end ends (suc place) = refl

-- the piece at a place
pub piece_at : (start : ℕ) (ends text : List ℕ) (place : ℕ) → place < length ends
    → get_or (pieces start ends text) place [] ≡ take (get_or ends place 0 - starts start ends place) (drop (starts start ends place) text)
piece_at start [] text place below = absurd (omega (arith, below))
piece_at start (end ∷ ends) text zero below = refl
piece_at start (end ∷ ends) text (suc place) below =
    piece_at end ends text place (omega (arith, below))
    ∙ ap (λ (n : ℕ). take (get_or ends place 0 - n) (drop n text)) (starts-next start end ends place)

-- stands within the text
pub piece_within : (start : ℕ) (ends text : List ℕ) (place : ℕ) → AreEnds start ends text → place < length ends
    → (starts start ends place ≤ get_or ends place 0) × (get_or ends place 0 ≤ length text)
piece_within start [] text place are below = absurd (omega (arith, below))
piece_within start (end ∷ ends) text zero are below = (are.0, ends_within end ends text are.1)
piece_within start (end ∷ ends) text (suc place) are below =
    let rest = piece_within end ends text place are.1 (omega (arith, below)) in
    (omega (arith, rest.0, starts-next start end ends place), rest.1)

-- there are as many as ends
pub length-pieces : (start : ℕ) (ends text : List ℕ) → length (pieces start ends text) ≡ length ends
length-pieces start [] text = refl
length-pieces start (end ∷ ends) text = ap (λ n. suc n) (length-pieces end ends text)
