use Rattle.std.proofs.Common.{◌≡◌, ◌+◌, length}
use Rattle.worker_jobs.proofs.worker_queue.WorkerQueue.give_back_late.Given as goal

abbrev pub invariant-loop-at : goal.invariant-loop-at
invariant-loop-at g l =
    (length l.self.late.items + l._at ≡ length l.initial.self.late.items)
    × (l.self.jobs.items ≡ l.initial.self.jobs.items)
    × (l.self.results.items ≡ l.initial.self.results.items)
    × (l.self.counts ≡ l.initial.self.counts)
    × (l.self.count ≡ l.initial.self.count)
