use Rattle.std.proofs.Common.{◌≡◌, take}
use Rattle.slice_reading.specs.ParameterSets.{put_all}
use Rattle.slice_reading.proofs.putting.with_all.Given as goal

abbrev pub invariant-loop-set : goal.invariant-loop-set
invariant-loop-set l = l.tables ≡ put_all l.fn.tables (take l.set-index l.sets)
