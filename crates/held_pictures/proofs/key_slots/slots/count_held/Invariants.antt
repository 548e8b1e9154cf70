use Rattle.std.proofs.Common.{◌≡◌, ◌+◌, ◌≤◌, length, drop}
use Rattle.held_pictures.specs.KeySlots.{held_from, numbers_held}
use Rattle.held_pictures.proofs.key_slots.slots.count_held.Given as goal

abbrev pub invariant-loop-slot : goal.invariant-loop-slot
invariant-loop-slot g l = record {
  few : l.held ≤ l.slot-index;
  counted : l.held + length (held_from l.slot-index (drop l.slot-index l.slots)) ≡ length (numbers_held l.slots);
}
