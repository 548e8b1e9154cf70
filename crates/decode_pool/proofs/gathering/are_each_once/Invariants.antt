use Rattle.std.proofs.Common.{◌≡◌, ℕ, ◌<◌, ◌≤◌}
use Rattle.decode_pool.specs.Finishing.{seats_of}
use Rattle.decode_pool.proofs.gathering.are_each_once.Given as goal

abbrev pub invariant-loop-at : goal.invariant-loop-at
invariant-loop-at l = (n : ℕ) → 0 < n → n ≤ l.at → seats_of l.seats n ≡ 1
