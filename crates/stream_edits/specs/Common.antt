-- What two streams have in common at their fronts and at their ends.
use Rattle.std.specs.Prelude.{◌≡◌, ℕ, ◌+◌, ◌-◌, ◌≤◌, length, take, drop}
use Rattle.stream_edits.specs.Streams.{Stream}

-- so many units at the start of both are the same
pub record IsFront (old new : Stream) (count : ℕ) : Type 0 where
  pub in_old : count ≤ length old
  pub in_new : count ≤ length new
  pub same : take count old ≡ take count new

-- so many units at the end of both are the same
pub record IsRest (old new : Stream) (count : ℕ) : Type 0 where
  pub in_old : count ≤ length old
  pub in_new : count ≤ length new
  pub same : drop (length old - count) old ≡ drop (length new - count) new

-- so many are, and no more
pub record IsLongestFront (old new : Stream) (count : ℕ) : Type 0 where
  pub is : IsFront old new count
  pub longest : (more : ℕ) → IsFront old new more → more ≤ count

-- so many are, all behind a front, and no more
pub record IsLongestRest (front : ℕ) (old new : Stream) (count : ℕ) : Type 0 where
  pub is : IsRest old new count
  pub behind_old : front + count ≤ length old
  pub behind_new : front + count ≤ length new
  pub longest : (more : ℕ) → IsRest old new more → front + more ≤ length old → front + more ≤ length new → more ≤ count
