use Rattle.std.proofs.Common.{◌≡◌, ◌++◌, List, drop}
use Rattle.stream_edits.specs.declared.edits.Edit.{Edit}
use Rattle.session_journal.specs.RecordRows.{given_after_edits, rows_of_edits}
use Rattle.session_journal.specs.Records.{rows_in}
use Rattle.session_journal.proofs.ReadLemmas.{Continues}
use Rattle.session_journal.proofs.steps.reading_edits.read_edits.Given as goal

-- the edits of the lines so far are read, and where all are those of edits the others are left
abbrev pub invariant-loop-line : goal.invariant-loop-line
invariant-loop-line l = record {
  kept : rows_in l.lines ≡ rows_of_edits l.given l.edits.items ++ rows_in (drop l.line-index l.lines);
  after : l.after ≡ given_after_edits l.given l.edits.items;
  only : (all : List Edit) → rows_in l.lines ≡ rows_of_edits l.given all → Continues l.edits.items l.after (rows_in (drop l.line-index l.lines)) all;
}
