use Rattle.std.proofs.Common.{◌≡◌, map, take}
use Rattle.slice_reading.specs.Numbers.{gathered}
use Rattle.request_core.specs.Fold.{listed}
use Rattle.request_core.proofs.planning.list_slices.Given as goal

abbrev pub invariant-loop-slice : goal.invariant-loop-slice
invariant-loop-slice l = l.gathered ≡ gathered (map (listed l.marks l.counts) (take l.slice-index l.slices))
