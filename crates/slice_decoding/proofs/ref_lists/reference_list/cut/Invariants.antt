use Rattle.std.proofs.Common.{◌≡◌}
use Rattle.slice_decoding.specs.InitialLists.{cut}
use Rattle.slice_decoding.proofs.ref_lists.reference_list.cut.Given as goal

abbrev pub invariant-loop-index : goal.invariant-loop-index
invariant-loop-index l = l.entries.items ≡ cut l.index l.places
