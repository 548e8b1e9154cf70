-- Texts that stand in one text, one after the other.
use Rattle.std.specs.Prelude.{◌≡◌, ℕ, zero, suc, ◌-◌, ◌≤◌, List, [], ◌∷◌, length, take, drop, get_or}

-- the pieces from this place on, each up to its end
abbrev pub pieces : ℕ → List ℕ → List ℕ → List (List ℕ)
pieces start [] text = []
pieces start (end ∷ ends) text = take (end - start) (drop start text) ∷ pieces end ends text

-- the pieces that end so make up the text from this place on
abbrev pub AreEnds : ℕ → List ℕ → List ℕ → Type 0
AreEnds start [] text = start ≡ length text
AreEnds start (end ∷ ends) text = (start ≤ end) × AreEnds end ends text

-- where the piece at a place begins
abbrev pub starts : ℕ → List ℕ → ℕ → ℕ
starts start ends zero = start
starts start ends (suc place) = get_or ends place 0
