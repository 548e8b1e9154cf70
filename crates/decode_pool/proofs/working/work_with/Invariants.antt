use Rattle.std.proofs.Common.{◌≡◌, ◌<◌, ◌≤◌, []}
use Rattle.decode_pool.proofs.working.work_with.Given as goal

abbrev pub invariant-loop-round : goal.invariant-loop-round
invariant-loop-round g l = (l.queue.jobs.items ≡ []) × (0 < l.most) × (l.most ≤ 8)
