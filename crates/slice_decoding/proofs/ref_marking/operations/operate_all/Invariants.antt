use Rattle.std.proofs.Common.{◌≡◌, drop}
use Rattle.slice_decoding.specs.MarksAfter.{all_operated}
use Rattle.slice_decoding.proofs.ref_marking.operations.operate_all.Given as goal

-- the operations that are left give from the frames so far what all give from the first ones
abbrev pub invariant-loop-operation : goal.invariant-loop-operation
invariant-loop-operation l =
    all_operated l.sps l.frame_num l.operations l.fn.marks ≡ all_operated l.sps l.frame_num (drop l.operation-index l.operations) l.marks
