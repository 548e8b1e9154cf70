-- The break that a unit follows.
use Rattle.std.specs.Prelude.{ℕ, ◌<◌, ◌≤◌, List}
use Rattle.unit_outcomes.specs.SeenUnits.{BreaksAt, IsIdrAt, SeenUnit}

-- a break lasts up to a unit: it stands before it, and no valid IDR picture stands behind it, up to
-- the unit itself included
pub record Lasts (units : List SeenUnit) (broken at : ℕ) : Type 0 where
  pub before : broken < at
  pub breaks : BreaksAt units broken
  pub no_idr : (place : ℕ) → broken < place → place ≤ at → IsIdrAt units place → ⊥

-- a unit follows the first of those breaks
pub record Follows (units : List SeenUnit) (at broken : ℕ) : Type 0 where
  pub lasts : Lasts units broken at
  pub first : (other : ℕ) → Lasts units other at → broken ≤ other
