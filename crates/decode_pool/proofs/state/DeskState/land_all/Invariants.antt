use Rattle.std.proofs.Common.{◌≡◌, ◌+◌, List, length}
use Rattle.stream_session.specs.Machines.{Machine}
use Rattle.worker_jobs.specs.declared.worker_queue.JobCounts.{JobCounts}
use Rattle.decode_pool.specs.Batches.{LandsAll}
use Rattle.decode_pool.proofs.state.DeskState.land_all.Given as goal

abbrev pub invariant-loop-at : goal.invariant-loop-at
invariant-loop-at g l =
    ((to : Machine g.row.P.Denot) (final : JobCounts) (all : List g.row.P.Denot)
    → LandsAll g.P.Decoded.IsDecoded l.self.session l.queue.results.items l.queue.counts l.queue.late.items to final all
    → LandsAll g.P.Decoded.IsDecoded l.initial.self.session l.initial.queue.results.items l.initial.queue.counts
    l.initial.queue.late.items to final all)
    × (length l.queue.results.items + l._at ≡ length l.initial.queue.results.items)
    × (l.queue.jobs.items ≡ l.initial.queue.jobs.items)
    × (l.self.status ≡ l.initial.self.status)
