use Rattle.std.proofs.Common.{◌≡◌, take}
use Rattle.seat_books.proofs.comparing.same_edits.Given as goal

abbrev pub invariant-loop-at : goal.invariant-loop-at
invariant-loop-at l = take l.at l.edits ≡ take l.at l.others
