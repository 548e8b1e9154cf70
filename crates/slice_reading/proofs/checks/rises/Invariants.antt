use Rattle.std.proofs.Common.{◌≡◌, drop}
use Rattle.slice_reading.specs.Faults.{rises_from}
use Rattle.slice_reading.proofs.checks.rises.Given as goal

abbrev pub invariant-loop-slice : goal.invariant-loop-slice
invariant-loop-slice l = rises_from 0 l.slices ≡ rises_from l.last (drop l.slice-index l.slices)
