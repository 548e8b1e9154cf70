use Rattle.std.proofs.Common.{◌≡◌, take}
use Rattle.stand_in_session.proofs.commands.copies_of.Given as goal

-- the edits so far
abbrev pub invariant-loop-edit : goal.invariant-loop-edit
invariant-loop-edit l = l.copies.items ≡ take l.edit-index l.edits
