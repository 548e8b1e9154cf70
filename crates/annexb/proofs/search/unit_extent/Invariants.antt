use Rattle.std.proofs.Common.{◌-◌, length}
use Rattle.annexb.specs.Search.{IsScanned}
use Rattle.annexb.proofs.search.unit_extent.Given as goal

abbrev pub invariant-loop-code : goal.invariant-loop-code
invariant-loop-code l = IsScanned l.bytes l.from

abbrev pub decreases-loop-code : goal.decreases-loop-code
decreases-loop-code l = length l.bytes - l.from
