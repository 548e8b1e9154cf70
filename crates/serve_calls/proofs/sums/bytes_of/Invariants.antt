use Rattle.std.proofs.Common.{◌≡◌, take}
use Rattle.serve_calls.specs.Sums.{bytes_of}
use Rattle.serve_calls.proofs.sums.bytes_of.Given as goal

abbrev pub invariant-loop-edit : goal.invariant-loop-edit
invariant-loop-edit l = l.bytes ≡ bytes_of (take l.edit-index l.edits)
