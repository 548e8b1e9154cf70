use Rattle.std.proofs.Common.{◌≡◌, length}
use lib.Seq.{paste}
use Rattle.c_calls.proofs.grouping.fill_ids.Given as goal

-- the ids so far stand in front of what was there
abbrev pub invariant-loop-index : goal.invariant-loop-index
invariant-loop-index l = record {
  pasted : l.ids ≡ paste l.fn.ids 0 l.from l.index;
  long : length l.ids ≡ length l.fn.ids;
}
