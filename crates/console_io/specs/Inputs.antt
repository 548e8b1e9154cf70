-- What is read from (docs/OUTPUT.md).
use Rattle.std.specs.Prelude.{ℕ, Bool, true, false, List, Option, codes, if◌then◌else◌}
use Rattle.std.specs.Str.{bytes_eq}
use Rattle.std.specs.declared.io.ErrorKind.{ErrorKind}
use Rattle.std.specs.declared.io.ErrorKind.TheVariants.{OutOfMemory}
use Rattle.console_io.specs.declared.input.NamedInput.{NamedInput}
use Rattle.console_io.specs.declared.input.NamedInput.TheVariants.{StandardInput, File}
use Rattle.console_io.specs.declared.input.InputFault.{InputFault}
use Rattle.console_io.specs.declared.input.InputFault.TheVariants.{Unread, Memory}

module _ {S F : Type 0} where
  -- whether it is the standard input
  abbrev pub is_standard : NamedInput S F → Bool
  is_standard (StandardInput input) = true
  is_standard (File file) = false

  -- the bytes that it gives from here on, where they are known
  abbrev pub remaining_of : (S → Option (List ℕ)) → (F → Option (List ℕ)) → NamedInput S F → Option (List ℕ)
  remaining_of standard file (StandardInput input) = standard input
  remaining_of standard file (File opened) = file opened

-- the bytes of a file by its name, where they are known
abbrev pub Files : Type 0
Files = List ℕ → Option (List ℕ)

-- what a name stands for: the standard input for `-`, else the file of that name
abbrev pub text_named : Files → Option (List ℕ) → List ℕ → Option (List ℕ)
text_named files standard name = if bytes_eq name (codes "-") then standard else files name

-- why an input isn't read that fails so
abbrev pub input_fault : ErrorKind → InputFault
input_fault OutOfMemory = Memory
input_fault _ = Unread
