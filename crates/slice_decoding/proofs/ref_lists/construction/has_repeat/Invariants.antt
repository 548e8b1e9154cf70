use Rattle.std.proofs.Common.{◌≡◌, drop}
use Rattle.slice_decoding.specs.ReferenceLists.{has_repeat}
use Rattle.slice_decoding.proofs.ref_lists.construction.has_repeat.Given as goal

abbrev pub invariant-loop-index : goal.invariant-loop-index
invariant-loop-index l = has_repeat (drop l.index l.numbers) ≡ has_repeat l.numbers
