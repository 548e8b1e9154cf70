use Rattle.std.proofs.Common.{◌≡◌, ◌+◌, ◌++◌, length}
use Rattle.worker_jobs.proofs.worker_queue.WorkerQueue.decode.Given as goal

abbrev pub invariant-loop-at : goal.invariant-loop-at
invariant-loop-at g l =
    (length l.self.jobs.items + l._at ≡ length l.initial.self.jobs.items)
    × (l.self.results.items ++ l.self.jobs.items ≡ l.initial.self.results.items ++ l.initial.self.jobs.items)
    × (l.self.count ≡ l.initial.self.count)
    × (l.self.late.items ≡ l.initial.self.late.items)
