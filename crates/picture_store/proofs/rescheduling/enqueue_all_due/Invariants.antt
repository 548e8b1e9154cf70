use Rattle.std.proofs.Common.{ℕ, take}
use Rattle.std.specs.BinaryHeap.{heap_items}
use Rattle.picture_store.specs.Schedules.{AddsDue, WaitsFor}
use Rattle.picture_store.proofs.rescheduling.enqueue_all_due.Given as goal

-- the places so far came into the queue
abbrev pub invariant-loop-dependent : goal.invariant-loop-dependent
invariant-loop-dependent g l =
    AddsDue l.keys l.key_slots l.out l.numbers (λ at. (entry : ℕ) × WaitsFor (take l.dependent-index l.freed) at entry)
    (heap_items l.fn.queue) (heap_items l.queue)
