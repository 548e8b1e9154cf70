use Rattle.std.proofs.Common.{◌≡◌, ◌++◌, drop}
use Rattle.session_journal.specs.RecordRows.{given_after_edits, rows_of_edits}
use Rattle.session_journal.proofs.steps.keeping.keep_edits.Given as goal

-- with what is kept of the edits that are left it is what is kept of all
abbrev pub invariant-loop-edit : goal.invariant-loop-edit
invariant-loop-edit l = record {
  kept : l.kept.items ++ rows_of_edits l.after (drop l.edit-index l.edits) ≡ l.fn.kept.items ++ rows_of_edits l.given l.edits;
  given : given_after_edits l.after (drop l.edit-index l.edits) ≡ given_after_edits l.given l.edits;
}
