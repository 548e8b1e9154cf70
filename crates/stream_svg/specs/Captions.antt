-- What is said of units.
use Rattle.std.specs.Prelude.{ℕ, List, string_bytes}
use Rattle.stream_svg.specs.declared.writing.Caption.{Caption}

-- the lines of a unit
abbrev pub lines_of : Caption → List ℕ
lines_of caption = string_bytes caption.lines
