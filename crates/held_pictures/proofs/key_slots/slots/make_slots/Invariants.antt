use Rattle.std.proofs.Common.{◌+◌, ◌-◌, ◌≤◌, length}
use Rattle.held_pictures.specs.KeySlots.{AreSame}
use Rattle.held_pictures.proofs.key_slots.slots.make_slots.Given as goal

abbrev pub invariant-loop-slots : goal.invariant-loop-slots
invariant-loop-slots g l = record {
  same : AreSame l.initial.slots.items l.slots.items;
  longer : length l.initial.slots.items ≤ length l.slots.items;
}

abbrev pub decreases-loop-slots : goal.decreases-loop-slots
decreases-loop-slots g l = l.at + 1 - length l.slots.items
