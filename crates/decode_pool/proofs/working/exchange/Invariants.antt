use Rattle.std.proofs.Common.{◌≡◌, []}
use Rattle.decode_pool.proofs.working.exchange.Given as goal

abbrev pub invariant-loop : goal.invariant-loop
invariant-loop g l = (l.queue.jobs.items ≡ []) × (l.queue.results.items ≡ [])
