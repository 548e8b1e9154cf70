-- What is said on standard error (docs/OUTPUT.md).
use Rattle.std.specs.Prelude.{◌≡◌, ◌++◌, List, [], ℕ, codes, Option, Result, MatchResult}
use Rattle.std.specs.Io.KnownBytes.{Appends}
use Rattle.console_io.specs.Chunks.{AppendsFront}
use Rattle.console_io.specs.declared.chunks.PrintFault.{PrintFault}
use Rattle.console_io.specs.declared.chunks.PrintFault.TheVariants as print
use Rattle.console_io.specs.declared.input.InputFault.{InputFault}
use Rattle.console_io.specs.declared.input.InputFault.TheVariants as input

-- what became of a message: all of it was written, or a prefix of it and then its writer refused
abbrev pub Tells : {T : Type 0} → Result T PrintFault → Type 0 → Option (List ℕ) → Option (List ℕ) → List ℕ → Type 0
Tells told refused old new message = MatchResult told (λ _. Appends old new message)
    (λ fault. (fault ≡ print.Unwritten) × refused × AppendsFront old new message)

-- that memory ran out
abbrev pub out_of_memory : List ℕ
out_of_memory = codes "out of memory\n"

-- a line that ends with this word
abbrev pub line_text : List ℕ → List ℕ → List ℕ
line_text front word = front ++ (word ++ codes "\n")

-- that the input of this name can't be read
abbrev pub unread_text : List ℕ → List ℕ
unread_text name = line_text (codes "cannot read ") name

-- why the input of this name isn't read
abbrev pub input_fault_text : List ℕ → InputFault → List ℕ
input_fault_text name input.Unread = unread_text name
input_fault_text name input.Memory = out_of_memory

-- why a text isn't printed; nothing where it is the writer that takes no more
abbrev pub print_fault_text : PrintFault → List ℕ
print_fault_text print.Memory = out_of_memory
print_fault_text print.Unwritten = []

-- that a word of the command line isn't UTF-8
abbrev pub not_text : List ℕ
not_text = codes "error: invalid UTF-8 was detected in one or more arguments\n"
