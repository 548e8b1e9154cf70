use Rattle.std.proofs.Common.{◌≡◌, ◌≤◌, ◌+◌, ℕ, drop}
use Rattle.session_journal.specs.RecordRows.{given_after_edits}
use Rattle.session_journal.proofs.last_step.insertions_in.Given as goal

-- with the insertions so far and the edits that are left there are as many ids as with all edits
abbrev pub invariant-loop-edit : goal.invariant-loop-edit
invariant-loop-edit l = record {
  few : l.count ≤ l.edit-index;
  counted : (before : ℕ) → given_after_edits before l.edits ≡ given_after_edits (before + l.count) (drop l.edit-index l.edits);
}
