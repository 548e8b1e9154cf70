use Rattle.std.proofs.Common.{◌≡◌, drop}
use Rattle.slice_decoding.specs.Marking.{current_idx}
use Rattle.slice_decoding.proofs.ref_marking.contradictions.current_idx.Given as goal

-- those so far aren't operation 6
abbrev pub invariant-loop-operation : goal.invariant-loop-operation
invariant-loop-operation l = current_idx l.operations ≡ current_idx (drop l.operation-index l.operations)
