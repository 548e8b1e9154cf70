use Rattle.std.proofs.Common.{◌≡◌, ◌++◌, take}
use Rattle.picture_store.specs.Stored.{numbers_out}
use Rattle.picture_store.proofs.refitting.add_out.Given as goal

abbrev pub invariant-loop-job : goal.invariant-loop-job
invariant-loop-job g l = l.roots.items ≡ l.initial.roots.items ++ numbers_out (take l.job-index l.out)
