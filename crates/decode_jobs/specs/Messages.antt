-- The message whose SHA-256 is a node's fingerprint.
use Rattle.std.specs.Prelude.{ℕ, List, [], ◌∷◌, ◌++◌, Option, Some, None}
use Rattle.std.specs.List.{flat_map}
use Rattle.std.specs.Int.{w64, to_le_bytes}

-- an entry: a byte 0 for nothing; else a byte 1 and the number, little-endian
abbrev pub entry_bytes : Option ℕ → List ℕ
entry_bytes None = 0 ∷ []
entry_bytes (Some number) = 1 ∷ to_le_bytes w64 number

-- the entries, one after the other, and then the bytes of the content
abbrev pub message : List (Option ℕ) → List ℕ → List ℕ
message entries content = flat_map entry_bytes entries ++ content
