-- Lines that a writer got as texts.
use Rattle.std.specs.Prelude.{◌≡◌, ℕ, List, [], ◌∷◌, Option}
use Rattle.std.specs.Io.KnownBytes.{Appends}
use Rattle.unit_printing.specs.StreamLines.{AreStreamLines}
use Rattle.unit_printing.specs.declared.json.encoding.DecodeMode.{DecodeMode}
use Rattle.unit_printing.specs.declared.json.json_line.JsonLine.{JsonLine}

-- a text that says the line was written
abbrev pub Said : (JsonLine → List ℕ → Type 0) → JsonLine → Option (List ℕ) → Option (List ℕ) → Type 0
Said says line old new = (text : List ℕ) × says line text × Appends old new text

-- a text for each of the lines, in order
abbrev pub AreSaid : (JsonLine → List ℕ → Type 0) → List JsonLine → Option (List ℕ) → Option (List ℕ) → Type 0
AreSaid says [] old new = old ≡ new
AreSaid says (line ∷ lines) old new = (mid : Option (List ℕ)) × Said says line old mid × AreSaid says lines mid new

-- the lines of a stream were
pub record SaysStream (says : JsonLine → List ℕ → Type 0) (mode : DecodeMode) (units : List (List (List ℕ))) (old new : Option (List ℕ)) : Type 0 where
  pub lines : List JsonLine
  pub of_stream : AreStreamLines mode units lines
  pub said : AreSaid says lines old new
