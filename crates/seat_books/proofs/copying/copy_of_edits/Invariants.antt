use Rattle.std.proofs.Common.{◌≡◌, take}
use Rattle.seat_books.proofs.copying.copy_of_edits.Given as goal

abbrev pub invariant-loop-edit : goal.invariant-loop-edit
invariant-loop-edit l = l.copy.items ≡ take l.edit-index l.edits
