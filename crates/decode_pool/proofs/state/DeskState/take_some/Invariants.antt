use Rattle.std.proofs.Common.{◌≡◌, length}
use Rattle.decode_pool.specs.Batches.{TakesAll}
use Rattle.decode_pool.proofs.state.DeskState.take_some.Given as goal

abbrev pub invariant-loop-at : goal.invariant-loop-at
invariant-loop-at g l =
    TakesAll g.P.Decoded.IsOf l.initial.self.session l.queue.jobs.items l.self.session
    × (length l.queue.jobs.items ≡ l._at)
    × (l.queue.results.items ≡ l.initial.queue.results.items)
    × (l.queue.late.items ≡ l.initial.queue.late.items)
    × (l.queue.counts ≡ l.initial.queue.counts)
    × (l.self.status ≡ l.initial.self.status)
