-- How a call tells what it was asked.
use Rattle.std.specs.Prelude.{◌≡◌, ℕ, Bool, true, false, Option, None, Some, Result, Ok, Err}
use Rattle.c_calls.specs.Statuses.{done}

-- what is told where there is an answer; else the status says why there is none, and what was told
-- before stays
abbrev pub Tells : {A : Type 0} → Result A ℕ → ℕ → A → A → Type 0
Tells (Ok value) status old new = (status ≡ done) × (new ≡ value)
Tells (Err why) status old new = (status ≡ why) × (new ≡ old)

-- what is found, or this status where nothing is
abbrev pub found_or : {A : Type 0} → ℕ → Option A → Result A ℕ
found_or lacking (Some value) = Ok value
found_or lacking None = Err lacking

-- 1 for what is so, else 0
abbrev pub flag : Bool → ℕ
flag true = 1
flag false = 0
