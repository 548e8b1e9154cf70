-- Writers that declare when they take nothing.
use Rattle.std.specs.Prelude.{◌≡◌, ℕ, ◌<◌, List, length, Result, MatchResult}

-- a write of these bytes that failed or took none of them, though there are some, says so
abbrev pub WriteRefuses : {E : Type 0} → Result ℕ E → List ℕ → Type 0 → Type 0
WriteRefuses result bytes refused = MatchResult result (λ count. count ≡ 0 → 0 < length bytes → refused) (λ _. refused)
