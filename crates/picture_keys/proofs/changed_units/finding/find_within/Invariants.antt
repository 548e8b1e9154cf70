use Rattle.std.proofs.Common.{◌≡◌, ℕ, ◌<◌, ◌≤◌, Some, slice_get}
use Rattle.picture_keys.proofs.changed_units.finding.find_within.Given as goal

-- none of the ids so far is the one
abbrev pub invariant-loop-at : goal.invariant-loop-at
invariant-loop-at l = (k : ℕ) → l.from ≤ k → k < l.at → slice_get l.ids k ≡ Some l.id → ⊥
