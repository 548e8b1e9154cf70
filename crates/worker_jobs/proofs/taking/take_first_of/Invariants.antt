use Rattle.std.proofs.Common.{◌≡◌}
use Rattle.worker_jobs.specs.Taking.{NoneDueBefore}
use Rattle.worker_jobs.proofs.taking.take_first_of.Given as goal

abbrev pub invariant-loop-number : goal.invariant-loop-number
invariant-loop-number g l = NoneDueBefore l.initial.session l.numbers l.number-index × (l.session ≡ l.initial.session)
