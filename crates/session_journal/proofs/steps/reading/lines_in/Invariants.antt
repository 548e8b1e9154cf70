use Rattle.std.proofs.Common.{◌≡◌, take}
use Rattle.session_journal.specs.Records.{AreOf}
use Rattle.session_journal.proofs.steps.reading.lines_in.Given as goal

-- the lines so far are of the record
abbrev pub invariant-loop-line : goal.invariant-loop-line
invariant-loop-line l = record {
  count : l.count ≡ l.line-index;
  are : AreOf l.entry (take l.line-index l.lines);
}
