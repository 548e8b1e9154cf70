-- How `plan --json` ends (docs/OUTPUT.md).
use Rattle.std.specs.Prelude.{◌≡◌, ◌≤◌, ℕ, List, [], Option, IfSome, Result, length}
use Rattle.std.specs.Io.KnownBytes.{Keeps}
use Rattle.access_unit.specs.StreamUnits.{IsStream, IsStreamRefused, most_units}
use Rattle.access_unit.specs.declared.stream_units.Refusal.{Refusal}
use Rattle.console_io.specs.Messages.{Tells, input_fault_text, print_fault_text}
use Rattle.console_io.specs.declared.chunks.PrintFault.{PrintFault}
use Rattle.console_io.specs.declared.chunks.PrintFault.TheVariants as print
use Rattle.console_io.specs.declared.input.InputFault.{InputFault}
use Rattle.unit_printing.specs.JsonLines.{refused_line}
use Rattle.unit_printing.specs.declared.json.json_line.JsonLine.{JsonLine}
use Rattle.unit_printing.specs.Said.{Said, SaysStream}
use Rattle.unit_printing.specs.declared.json.encoding.DecodeMode.{DecodeMode}

-- the text is a stream, and the lines of its units were written for a decoder of this mode
pub record WritesJsonFor (says : JsonLine → List ℕ → Type 0) (mode : DecodeMode) (text : List ℕ) (old new : Option (List ℕ)) : Type 0 where
  pub parts : List (List (List ℕ))
  pub stream : IsStream text parts
  pub bounded : length parts ≤ most_units
  pub said : SaysStream says mode parts old new

-- why not all is printed: the input wasn't read, the stream is refused, or a line wasn't printed
pub data JsonEnd : Type 0 where
  unread : InputFault → JsonEnd
  refused : Refusal → JsonEnd
  unprinted : PrintFault → JsonEnd

-- what was written of a text by then: nothing where it wasn't read, or the line of its refusal
abbrev pub EndsJson : (JsonLine → List ℕ → Type 0) → List ℕ → JsonEnd → Type 0 → Option (List ℕ) → Option (List ℕ) → Type 0
EndsJson says text (unread fault) refuses old new = Keeps old new
EndsJson says text (refused refusal) refuses old new =
    IsStreamRefused text most_units refusal × Said says (refused_line refusal) old new
EndsJson says text (unprinted fault) refuses old new = fault ≡ print.Unwritten → refuses

-- what is told on standard error of the input of this name
abbrev pub end_text : List ℕ → JsonEnd → List ℕ
end_text name (unread fault) = input_fault_text name fault
end_text name (refused refusal) = []
end_text name (unprinted fault) = print_fault_text fault

-- it ended so of an input with this text, and that was told
abbrev pub FailsJson : {T : Type 0} → (JsonLine → List ℕ → Type 0) → Option (List ℕ) → List ℕ → Result T PrintFault
    → Type 0 → Option (List ℕ) → Option (List ℕ) → Type 0 → Option (List ℕ) → Option (List ℕ) → Type 0
FailsJson says text name told refuses old new mute had has =
    (end : JsonEnd) × IfSome text (λ text. EndsJson says text end refuses old new)
    × Tells told mute had has (end_text name end)

-- the same of a text that was read, whatever the input's name
abbrev pub FailsText : {T : Type 0} → (JsonLine → List ℕ → Type 0) → List ℕ → Result T PrintFault
    → Type 0 → Option (List ℕ) → Option (List ℕ) → Type 0 → Option (List ℕ) → Option (List ℕ) → Type 0
FailsText says text told refuses old new mute had has =
    (end : JsonEnd) × EndsJson says text end refuses old new
    × ((name : List ℕ) → Tells told mute had has (end_text name end))
