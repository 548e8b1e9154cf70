use Rattle.std.proofs.Common.{◌≡◌, ◌++◌, ℕ, List, length}
use Rattle.stream_mending.specs.declared.why.LeftOut.{LeftOut as Told}
use Rattle.stream_mending.specs.Mending.{IsMendedUpTo}
use Rattle.stream_mending.proofs.mender.Mender.take.Given as goal

abbrev pub invariant-loop-piece : goal.invariant-loop-piece
invariant-loop-piece l = record {
  so_far : (text written more : List ℕ) (said : List Told) → IsMendedUpTo text written said (l.initial.rest ++ more) l.initial.self
      → IsMendedUpTo text written said (l.rest ++ more) l.self;
  suffix : (taken : List ℕ) × (l.initial.rest ≡ taken ++ l.rest);
}

abbrev pub decreases-loop-piece : goal.decreases-loop-piece
decreases-loop-piece l = length l.rest
