use Rattle.std.proofs.Common.{◌≡◌, take}
use Rattle.decode_pool.specs.Finishing.{seats_of}
use Rattle.decode_pool.proofs.gathering.book_of.Given as goal

abbrev pub invariant-loop-seat : goal.invariant-loop-seat
invariant-loop-seat l = seats_of (take l.seat-index l.seats) l.number ≡ 0
