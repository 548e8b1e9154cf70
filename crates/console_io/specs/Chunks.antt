-- Bytes on their way to a writer.
use Rattle.std.specs.Prelude.{◌≡◌, ℕ, ◌≤◌, ◌++◌, List, Option, length, take}
use Rattle.std.specs.Io.KnownBytes.{Appends}
use Rattle.console_io.specs.declared.chunks.Chunks.{Chunks}

-- what waits for the writer
abbrev pub waiting_of : Chunks → List ℕ
waiting_of chunks = chunks.waiting.items

-- the bytes are added to those that waited: a prefix of all went to the writer, and the rest waits
pub record Adds (old : Chunks) (had : Option (List ℕ)) (bytes : List ℕ) (new : Chunks) (has : Option (List ℕ)) : Type 0 where
  pub passed : List ℕ
  pub got : Appends had has passed
  pub waits : passed ++ waiting_of new ≡ waiting_of old ++ bytes

-- what a writer has got grows by a prefix of the bytes
abbrev pub AppendsFront : Option (List ℕ) → Option (List ℕ) → List ℕ → Type 0
AppendsFront old new bytes = (count : ℕ) × (count ≤ length bytes) × Appends old new (take count bytes)
