use Rattle.std.proofs.Common.{◌≡◌, length, map}
use lib.Seq.{paste}
use Rattle.c_calls.specs.Mending.{as_left_out_bytes}
use Rattle.c_calls.proofs.mending.fill_left_out.Given as goal

-- what is told so far stands in front of what was there
abbrev pub invariant-loop-index : goal.invariant-loop-index
invariant-loop-index l = record {
  pasted : l.left_out ≡ paste l.fn.left_out 0 (map as_left_out_bytes l.from) l.index;
  long : length l.left_out ≡ length l.fn.left_out;
}
