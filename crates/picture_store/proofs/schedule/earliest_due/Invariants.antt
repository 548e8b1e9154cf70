use Rattle.std.proofs.Common.{ℕ}
use Rattle.std.specs.BinaryHeap.{heap_items, heap_len}
use Rattle.picture_store.specs.Due.{IsDueThere}
use Rattle.picture_store.specs.Schedules.{IsQueue, IsQueued}
use Rattle.picture_store.proofs.schedule.earliest_due.Given as goal

-- those whose units are due are still in the queue
abbrev pub invariant-loop-top : goal.invariant-loop-top
invariant-loop-top g l =
    record {
      ordered : IsQueue (heap_items l.queue);
      stay : (at : ℕ) → IsQueued (heap_items l.fn.queue) at → IsDueThere l.keys l.key_slots l.out l.numbers at
          → IsQueued (heap_items l.queue) at;
      only : (at : ℕ) → IsQueued (heap_items l.queue) at → IsQueued (heap_items l.fn.queue) at;
    }

abbrev pub decreases-loop-top : goal.decreases-loop-top
decreases-loop-top g l = heap_len l.queue
