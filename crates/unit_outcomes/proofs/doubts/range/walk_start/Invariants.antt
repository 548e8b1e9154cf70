use Rattle.std.proofs.Common.{◌≡◌, ℕ, ◌<◌, ◌≤◌, true, slice_get}
use Rattle.unit_outcomes.specs.SeenUnits.{tells_idr}
use Rattle.unit_outcomes.proofs.doubts.range.walk_start.Given as goal

abbrev pub invariant-loop-at : goal.invariant-loop-at
invariant-loop-at l = record {
  within : l.at ≤ l.from;
  last : (place : ℕ) → l.at < place → place ≤ l.from → tells_idr (slice_get l.outcomes place) ≡ true → ⊥;
}

abbrev pub decreases-loop-at : goal.decreases-loop-at
decreases-loop-at l = l.at
