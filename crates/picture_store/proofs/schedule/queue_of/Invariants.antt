use Rattle.std.proofs.Common.{ℕ, Contains, take}
use Rattle.std.specs.BinaryHeap.{heap_items}
use Rattle.picture_store.specs.Due.{IsDueThere}
use Rattle.picture_store.specs.Schedules.{IsQueue, IsQueued}
use Rattle.picture_store.proofs.schedule.queue_of.Given as goal

-- those of the places so far whose units are due are in the queue
abbrev pub invariant-loop-at : goal.invariant-loop-at
invariant-loop-at g l =
    record {
      ordered : IsQueue (heap_items l.queue);
      due : (at : ℕ) → Contains (take l.at-index l.needed) at
          → IsDueThere l.units.keys.now l.units.key_slots.now l.out l.units.numbers.now at → IsQueued (heap_items l.queue) at;
      those : (at : ℕ) → IsQueued (heap_items l.queue) at → Contains l.needed at;
    }
