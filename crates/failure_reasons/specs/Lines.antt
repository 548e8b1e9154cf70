-- Why a line of a script is no command, in words.
use Rattle.std.specs.Prelude.{◌==◌, ◌||◌, ◌++◌, ◌-◌, ℕ, Bool, List, [], ◌∷◌, codes, decimal, Option, Some, None, slice_get, unwrap_or, if◌then◌else◌}
use Rattle.std.specs.List.{list_any}
use Rattle.std.specs.Option.{option_or}
use Rattle.std.specs.Str.{is_utf8}
use Rattle.edit_script.specs.Scripts.{lines_of}
use Rattle.edit_script.specs.Words.{words_of}
use Rattle.failure_reasons.specs.Forms.{alone_form, beside_form, common_form, edit_form}
use Rattle.failure_reasons.specs.declared.script_reasons.reason.LineReason.{LineReason}
use Rattle.failure_reasons.specs.declared.script_reasons.reason.LineReason.TheVariants.{NotText, Blank, NoWord, NoCommand, Form}

-- how the command of this name is written
abbrev pub form_of : List ℕ → Option (List ℕ)
form_of name = option_or (edit_form name) (option_or (common_form name) (option_or (alone_form name) (beside_form name)))

-- that no command has this name
abbrev pub no_command : List ℕ → List ℕ
no_command name = codes "no command \"" ++ (name ++ codes "\"")

-- why words aren't a command of a script, by the first of them
abbrev pub words_reason : List (List ℕ) → List ℕ
words_reason [] = codes "spaces alone are no command"
words_reason (name ∷ words) = unwrap_or (form_of name) (no_command name)

-- whether there is a tab or a carriage return
abbrev pub has_blank : List ℕ → Bool
has_blank line = list_any (λ byte. byte == 9) line || list_any (λ byte. byte == 13) line

-- why a line isn't one
abbrev pub line_reason : List ℕ → List ℕ
line_reason line =
    if is_utf8 line then (if has_blank line then codes "a tab or a carriage return is no space" else words_reason (words_of line))
    else codes "the line isn't UTF-8"

-- the sentence of a reason
abbrev pub reason_text : LineReason → List ℕ
reason_text NotText = codes "the line isn't UTF-8"
reason_text Blank = codes "a tab or a carriage return is no space"
reason_text NoWord = codes "spaces alone are no command"
reason_text (NoCommand name) = no_command name.now
reason_text (Form sentence) = sentence.now

-- the line of a text that has this number, from 1
abbrev pub line_at : List ℕ → ℕ → Option (List ℕ)
line_at text number = slice_get (lines_of text) (number - 1)

-- what is said of the line that has this number
abbrev pub line_text : ℕ → List ℕ → List ℕ
line_text number reason = codes "line " ++ (decimal number ++ (codes ": " ++ (reason ++ codes "\n")))

-- why the line of this number isn't a command of a script of this text
abbrev pub wrong_line : List ℕ → ℕ → List ℕ
wrong_line text number = line_text number (line_reason (unwrap_or (line_at text number) []))
