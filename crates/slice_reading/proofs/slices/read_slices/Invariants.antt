use Rattle.std.proofs.Common.{◌≡◌, take, map}
use Rattle.slice_reading.specs.Numbers.{gathered}
use Rattle.slice_reading.specs.Slices.{slice_at}
use Rattle.slice_reading.proofs.slices.read_slices.Given as goal

abbrev pub invariant-loop-nal : goal.invariant-loop-nal
invariant-loop-nal l = l.slices ≡ gathered (map (slice_at l.fn.tables) (take l.nal-index l.nals))
