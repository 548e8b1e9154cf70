use Rattle.std.proofs.Common.{◌≡◌, ◌+◌, ◌≤◌, ◌∷◌, length, take}
use Rattle.slice_decoding.specs.ReferenceLists.{short_term_counts}
use Rattle.slice_decoding.proofs.ref_lists.construction.counts_with.Given as goal

abbrev pub invariant-loop-frame : goal.invariant-loop-frame
invariant-loop-frame l =
    (l.counts.items ≡ l.pic_order_cnt ∷ short_term_counts (take l.frame-index l.frames)) × (length l.counts.items ≤ l.frame-index + 1)
