use Rattle.std.proofs.Common.{◌≡◌, take}
use Rattle.edit_history.proofs.groups.copies_of.Given as goal

-- those so far are copied
abbrev pub invariant-loop-change : goal.invariant-loop-change
invariant-loop-change l = l.copies.items ≡ take l.change-index l.changes
