use Rattle.std.proofs.Common.{take}
use Rattle.c_calls.specs.Grouping.{AreGiven}
use Rattle.c_calls.proofs.grouping.given_edits.Given as goal

-- the edits so far are asked for
abbrev pub invariant-loop-index : goal.invariant-loop-index
invariant-loop-index l = AreGiven l.texts (take l.index l.given) l.edits.items
