use Rattle.std.proofs.Common.{◌*◌, ◌≤◌, take}
use Rattle.stream_edits.specs.Reading.{AreHashedFor}
use Rattle.stream_edits.proofs.grouping.hashed_for.Given as goal

-- those of the edits so far are counted, each of which has few
abbrev pub invariant-loop-edit : goal.invariant-loop-edit
invariant-loop-edit l = record {
  counted : AreHashedFor (take l.edit-index l.read) l.hashed;
  few : l.hashed ≤ l.edit-index * 4194304;
}
