use Rattle.std.proofs.Common.{◌≤◌, length, take}
use Rattle.std.specs.Prelude.{All}
use Rattle.picture_store.specs.Due.{IsNotDue}
use Rattle.picture_store.proofs.due.first_due.Given as goal

abbrev pub invariant-loop-at : goal.invariant-loop-at
invariant-loop-at g l = (l.at ≤ length l.numbers) × All (IsNotDue l.keys l.key_slots l.out) (take l.at l.numbers)
