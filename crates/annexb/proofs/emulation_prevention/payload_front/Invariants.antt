use Rattle.std.proofs.Common.{◌≡◌, ◌≤◌, ◌++◌, length, take, drop}
use Rattle.annexb.specs.EmulationPrevention.{payload_of}
use Rattle.annexb.proofs.emulation_prevention.payload_front.Given as goal

abbrev pub invariant-loop-written : goal.invariant-loop-written
invariant-loop-written l = record {
  in_range : l.written ≤ l.limit;
  so_far : take l.written l.front ++ payload_of l.rest ≡ payload_of l.nal;
  kept : drop l.written l.front ≡ drop l.written l.fn.front;
}

abbrev pub decreases-loop-written : goal.decreases-loop-written
decreases-loop-written l = length l.rest
