use Rattle.std.proofs.Common.{◌↔◌, drop}
use Rattle.picture_store.specs.Due.{AreHeld}
use Rattle.picture_store.proofs.due.are_held.Given as goal

abbrev pub invariant-loop-entry : goal.invariant-loop-entry
invariant-loop-entry g l = AreHeld l.key_slots (drop l.entry-index l.entries) ↔ AreHeld l.key_slots l.entries
