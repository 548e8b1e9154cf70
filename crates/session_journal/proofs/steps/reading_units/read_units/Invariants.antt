use Rattle.std.proofs.Common.{◌≡◌, ◌++◌, map, drop}
use Rattle.session_journal.specs.RecordRows.{row_of_unit}
use Rattle.session_journal.specs.Records.{rows_in}
use Rattle.session_journal.proofs.steps.reading_units.read_units.Given as goal

-- the units of the lines so far are read
abbrev pub invariant-loop-line : goal.invariant-loop-line
invariant-loop-line l = rows_in l.lines ≡ map row_of_unit l.units.items ++ rows_in (drop l.line-index l.lines)
