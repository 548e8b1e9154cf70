use Rattle.std.proofs.Common.{◌≡◌, length, map}
use lib.Seq.{paste}
use Rattle.c_calls.specs.Doubting.{as_unit_doubt}
use Rattle.c_calls.proofs.doubting.fill_doubts.Given as goal

-- what is told so far stands in front of what was there
abbrev pub invariant-loop-index : goal.invariant-loop-index
invariant-loop-index l = record {
  pasted : l.doubts ≡ paste l.fn.doubts 0 (map as_unit_doubt l.from) l.index;
  long : length l.doubts ≡ length l.fn.doubts;
}
