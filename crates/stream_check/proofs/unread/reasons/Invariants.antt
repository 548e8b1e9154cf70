use Rattle.std.proofs.Common.{◌≡◌, map, take}
use Rattle.stream_check.specs.Unread.{left_out_of}
use Rattle.stream_check.proofs.unread.reasons.Given as goal

-- what is left out so far
abbrev pub invariant-loop-left_out : goal.invariant-loop-left_out
invariant-loop-left_out l = map left_out_of l.unread.items ≡ take l.left_out-index l.told
