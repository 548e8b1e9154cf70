-- What is said of a line, by what it is.
use Rattle.std.proofs.Common.{◌≡◌, Bool, true, false, ℕ, List, refl, sym}
use Rattle.std.specs.Prelude.{codes}
use Rattle.std.specs.Str.{IsUtf8, is_utf8}
use Rattle.std.proofs.lemmas.Str.{IsUtf8-from_is_utf8, is_utf8-from_IsUtf8}
use Rattle.edit_script.specs.Words.{words_of}
use Rattle.failure_reasons.specs.Lines.{has_blank, line_reason, words_reason}

-- what isn't true is false
not_true : (b : Bool) → (b ≡ true → ⊥) → b ≡ false
not_true true never = absurd (never refl)
not_true false never = refl

-- a text with a tab or a carriage return
pub blank-line : (line : List ℕ) → IsUtf8 line → has_blank line ≡ true
    → codes "a tab or a carriage return is no space" ≡ line_reason line
blank-line line text blank = rw (is_utf8-from_IsUtf8 line text, blank) refl

-- another text
pub worded-line : (line : List ℕ) → IsUtf8 line → has_blank line ≡ false → words_reason (words_of line) ≡ line_reason line
worded-line line text none = rw (is_utf8-from_IsUtf8 line text, none) refl

-- no text
pub no-text : (line : List ℕ) → ¬ IsUtf8 line → codes "the line isn't UTF-8" ≡ line_reason line
no-text line not =
    let none : is_utf8 line ≡ false = not_true (is_utf8 line) (λ is. not (IsUtf8-from_is_utf8 line is)) in
    rw none refl
