-- The first bytes of an input.
use Rattle.std.specs.Prelude.{ℕ, ◌≤◌, ◌⊎◌, List, length, Option}
use Rattle.std.specs.Io.KnownBytes.{Consumes, IsAtEnd}
use Rattle.stream_reasons.specs.declared.file_kinds.detection.TheConstants.{FIRST_BYTES}

-- a reader gave these bytes, which tell the kind of what it gives, or are all of it
abbrev pub IsFront : Option (List ℕ) → Option (List ℕ) → List ℕ → Type 0
IsFront old new front = Consumes old new front × ((FIRST_BYTES ≤ length front) ⊎ IsAtEnd new)
