use Rattle.std.proofs.Common.{◌≡◌, ℕ, ◌+◌, ◌<◌, true}
use Rattle.seat_books.specs.Sets.{has}
use Rattle.decode_pool.proofs.gathering.are_all_noted.Given as goal

abbrev pub invariant-loop-at : goal.invariant-loop-at
invariant-loop-at l = (k : ℕ) → k < l.at → has l.noted (k + 1) ≡ true
