use Rattle.std.proofs.Common.{◌≡◌, take}
use Rattle.stream_edits.proofs.read_group.read_texts.Given as goal

-- the edits so far are read
abbrev pub invariant-loop-index : goal.invariant-loop-index
invariant-loop-index l = l.read.items ≡ take l.index l.edits
