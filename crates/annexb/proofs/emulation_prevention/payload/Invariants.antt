use Rattle.std.proofs.Common.{◌≡◌, ◌++◌, length}
use Rattle.annexb.specs.EmulationPrevention.{payload_of}
use Rattle.annexb.proofs.emulation_prevention.payload.Given as goal

abbrev pub invariant-loop-payload : goal.invariant-loop-payload
invariant-loop-payload l = l.payload.items ++ payload_of l.rest ≡ payload_of l.nal

abbrev pub decreases-loop-payload : goal.decreases-loop-payload
decreases-loop-payload l = length l.rest
