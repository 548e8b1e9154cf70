-- What is said of a file on standard error.
use Rattle.std.specs.Prelude.{◌⊎◌, List, [], ℕ, Option, Some, IfSome, Result}
use Rattle.console_io.specs.Messages.{Tells}
use Rattle.console_io.specs.declared.chunks.PrintFault.{PrintFault}
use Rattle.failure_reasons.specs.Files.{IsReasonFor, refused_file}
use Rattle.failure_reasons.specs.declared.file_reasons.file_reason.FileReason.{FileReason}

-- this message is said, or none where there is no memory for it
abbrev pub MayTell : {T : Type 0} → Result T PrintFault → Type 0 → Option (List ℕ) → Option (List ℕ) → List ℕ → Type 0
MayTell told mute had has message = Tells told mute had has message ⊎ Tells told mute had has []

-- nothing is said, or why the file of this name isn't read, by its text, if that is known
abbrev pub Explains : {T : Type 0} → Result T PrintFault → Type 0 → Option (List ℕ) → Option (List ℕ) → List ℕ → Option (List ℕ) → Type 0
Explains told mute had has name known = Tells told mute had has []
    ⊎ ((reason : FileReason) × IfSome known (IsReasonFor (Some reason)) × Tells told mute had has (refused_file name reason))
