use Rattle.std.proofs.Common.{◌≡◌, ◌++◌, map, take, drop}
use Rattle.picture_store.specs.Looked.{lowered}
use Rattle.picture_store.proofs.job_out.lower_each.Given as goal

abbrev pub invariant-loop-job : goal.invariant-loop-job
invariant-loop-job g l = l.jobs ≡ map (lowered l.from) (take l.job-index l.initial.jobs) ++ drop l.job-index l.initial.jobs
