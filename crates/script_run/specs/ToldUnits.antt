-- The line of JSON of a unit of a session (docs/OUTPUT.md).
use Rattle.std.specs.Prelude.{◌≡◌, ℕ, Some, Result, Ok, Err}
use Rattle.unit_outcomes.specs.InDoubt.{IsDoubt}
use Rattle.unit_outcomes.specs.declared.doubts.walk.Doubt.{Doubt}
use Rattle.stream_edits.specs.Streams.{Stream, place_of}
use Rattle.stream_session.specs.Doubting.{seen_in}
use Rattle.stream_session.specs.declared.showing.NoSuchUnit.{NoSuchUnit}
use Rattle.stand_in_session.specs.declared.replies.UnitReport.{UnitReport}
use Rattle.edit_script.specs.Words.{id_of}
use Rattle.unit_printing.specs.JsonLines.{no_unit_line, unit_line}
use Rattle.unit_printing.specs.declared.json.encoding.DecodeMode.TheVariants.{SliceBased}
use Rattle.unit_printing.specs.declared.json.json_line.JsonLine.{JsonLine}

-- the break that the unit of the id follows, and whether it is in doubt
abbrev pub IsToldOf : Stream → ℕ → Doubt → Type 0
IsToldOf stream id told = (at : ℕ) × (place_of stream id ≡ Some at) × IsDoubt (seen_in stream) at told

-- the line of what is reported of the unit of a number, with what is told of its doubt
abbrev pub IsReportJson : Stream → ℕ → Result UnitReport NoSuchUnit → JsonLine → Type 0
IsReportJson stream number (Ok report) line =
    (told : Doubt) × IsToldOf stream (id_of number) told
    × (line ≡ unit_line SliceBased (id_of number) report.position report.outcome told)
IsReportJson stream number (Err none) line = line ≡ no_unit_line number
