use Rattle.std.proofs.Common.{◌≡◌, false, take}
use Rattle.std.specs.List.{list_any}
use Rattle.picture_store.specs.Referenced.{names}
use Rattle.picture_store.proofs.naming.entry_of.Given as goal

abbrev pub invariant-loop-at : goal.invariant-loop-at
invariant-loop-at l = list_any (names l.frame) (take l.at l.units) ≡ false
