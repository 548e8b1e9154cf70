use Rattle.std.proofs.Common.{◌≡◌, ◌++◌, ℕ, List, take}
use Rattle.picture_store.specs.Referenced.{each_once}
use Rattle.picture_store.proofs.naming.add_frames.Given as goal

abbrev pub invariant-loop-frame : goal.invariant-loop-frame
invariant-loop-frame l =
    (front : List ℕ) → l.initial.frames.items ≡ each_once front
    → l.frames.items ≡ each_once (front ++ take l.frame-index l.more)
