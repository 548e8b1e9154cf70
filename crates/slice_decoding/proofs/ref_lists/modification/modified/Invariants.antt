use Rattle.std.proofs.Common.{take, length}
use Rattle.slice_decoding.proofs.Modifications.{IsModifiedTo}
use Rattle.slice_decoding.proofs.ref_lists.modification.modified.Given as goal

abbrev pub invariant-loop-index : goal.invariant-loop-index
invariant-loop-index l = IsModifiedTo l.sps l.frame_num l.frames (take (length l.fn.list) l.commands) l.fn.list l.index l.number l.list
