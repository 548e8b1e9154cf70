use Rattle.std.proofs.Common.{◌≡◌, ◌+◌, ◌-◌, ℕ, length}
use Rattle.picture_store.specs.Marks.{is_flagged}
use Rattle.picture_store.proofs.mark.make_flags.Given as goal

abbrev pub invariant-loop-flags : goal.invariant-loop-flags
invariant-loop-flags l = (other : ℕ) → is_flagged l.flags.items other ≡ is_flagged l.initial.flags.items other

abbrev pub decreases-loop-flags : goal.decreases-loop-flags
decreases-loop-flags l = l.number + 1 - length l.flags.items
