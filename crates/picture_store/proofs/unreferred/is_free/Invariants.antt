use Rattle.std.proofs.Common.{take}
use Rattle.picture_store.specs.Unreferred.{IsFree}
use Rattle.picture_store.proofs.unreferred.is_free.Given as goal

abbrev pub invariant-loop-job : goal.invariant-loop-job
invariant-loop-job g l = IsFree (take l.job-index l.jobs) l.picture
