-- What is said behind a failure, on standard error (docs/OUTPUT.md).
use Rattle.std.specs.Prelude.{◌≡◌, ◌++◌, ◌⊎◌, ⊤, ℕ, List, [], ◌∷◌, codes, Option, Some, IfSome}
use Rattle.console_io.specs.Inputs.{Files}
use Rattle.failure_reasons.specs.Files.{IsReasonFor, refused_file}
use Rattle.failure_reasons.specs.declared.file_reasons.file_reason.FileReason.{FileReason}
use Rattle.failure_reasons.specs.declared.streams.FileLine.{FileLine}
use Rattle.failure_reasons.specs.declared.streams.FileLine.TheVariants.{Read, Unread}
use Rattle.failure_reasons.specs.Lines.{wrong_line}
use Rattle.failure_reasons.specs.ScriptReasonsTelling.{HasFirstWrong}
use Rattle.failure_reasons.specs.declared.script_reasons.explaining.ScriptKind.{ScriptKind}

-- that the file of a name can't be read, in the system's words
abbrev pub unread_file : List ℕ → List ℕ → List ℕ
unread_file name words = name ++ (codes ": " ++ (words ++ (codes "; see: preview check " ++ (name ++ codes "\n"))))

-- that the file of a name, which a script loads, can't be: a name there isn't one beside the script
abbrev pub unread_load : List ℕ → List ℕ → List ℕ
unread_load name words =
    name ++ (codes ": " ++ (words ++ (codes "; relative paths in a script start at the working directory; see: preview check "
    ++ (name ++ codes "\n"))))

-- that the script of a name can't be
abbrev pub unread_script : List ℕ → List ℕ → List ℕ
unread_script name words = name ++ (codes ": " ++ (words ++ codes "\n"))

-- the line says why the file of a name isn't taken by its text, where that is known: it is no stream or
-- is refused
abbrev pub IsRefusedLine : Option (List ℕ) → List ℕ → List ℕ → Type 0
IsRefusedLine known name line =
    (reason : FileReason) × IfSome known (IsReasonFor (Some reason)) × (line ≡ refused_file name reason)

-- the line says why the file of a name isn't taken: it can't be read, or by its text
abbrev pub IsFileLine : Option (List ℕ) → List ℕ → List ℕ → Type 0
IsFileLine known name line = ((words : List ℕ) × (line ≡ unread_file name words)) ⊎ IsRefusedLine known name line

-- that line, or none
abbrev pub MayHaveFile : Option (List ℕ) → List ℕ → List ℕ → Type 0
MayHaveFile known name line = (line ≡ []) ⊎ IsFileLine known name line

-- the line says so of a file that a script loads
abbrev pub IsLoadLine : Option (List ℕ) → List ℕ → List ℕ → Type 0
IsLoadLine known name line = ((words : List ℕ) × (line ≡ unread_load name words)) ⊎ IsRefusedLine known name line

-- that line, or none
abbrev pub MayHaveLoad : Option (List ℕ) → List ℕ → List ℕ → Type 0
MayHaveLoad known name line = (line ≡ []) ⊎ IsLoadLine known name line

-- what is said of the file of a name: a line by its text or none, where it can be read
abbrev pub IsSaidOf : Option (List ℕ) → List ℕ → FileLine → Type 0
IsSaidOf known name (Read line) = (line.items ≡ []) ⊎ IsRefusedLine known name line.items
IsSaidOf known name (Unread error) = ⊤

-- lines for the files of these names, which a script loads, one after the other; each may have none
abbrev pub AreFileLines : Files → List (List ℕ) → List ℕ → Type 0
AreFileLines files [] lines = lines ≡ []
AreFileLines files (name ∷ names) lines =
    (first : List ℕ) × (rest : List ℕ) × MayHaveLoad (files name) name first
    × AreFileLines files names rest × (lines ≡ first ++ rest)

-- the line says why the first wrong line of a script of this text is no command, or there is none
abbrev pub MayHaveWrong : ScriptKind → List ℕ → List ℕ → Type 0
MayHaveWrong kind text line =
    (line ≡ []) ⊎ ((number : ℕ) × HasFirstWrong kind text number × (line ≡ wrong_line text number))
