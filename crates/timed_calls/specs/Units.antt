-- The file of the units.
use Rattle.std.specs.Prelude.{ℕ, List, ◌++◌, length}
use Rattle.std.specs.Int.{w32, to_le_bytes}

-- a text after its length of four bytes, the lowest first
abbrev pub framed : List ℕ → List ℕ
framed text = to_le_bytes w32 (length text) ++ text
