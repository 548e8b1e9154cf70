use Rattle.std.proofs.Common.{◌≡◌, ◌+◌, length}
use Rattle.stream_session.specs.Machines.{Machine}
use Rattle.worker_jobs.specs.declared.worker_queue.JobCounts.{JobCounts}
use Rattle.decode_pool.specs.Batches.{GivesBackAll}
use Rattle.decode_pool.proofs.state.DeskState.give_back_all.Given as goal

abbrev pub invariant-loop-at : goal.invariant-loop-at
invariant-loop-at g l =
    ((to : Machine g.row.P.Denot) (final : JobCounts) → GivesBackAll l.self.session l.queue.jobs.items l.queue.counts to final
    → GivesBackAll l.initial.self.session l.initial.queue.jobs.items l.initial.queue.counts to final)
    × (length l.queue.jobs.items + l._at ≡ length l.initial.queue.jobs.items)
    × (l.queue.results.items ≡ l.initial.queue.results.items)
    × (l.queue.late.items ≡ l.initial.queue.late.items)
    × (l.self.status ≡ l.initial.self.status)
