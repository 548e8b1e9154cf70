use Rattle.std.proofs.Common.{take}
use Rattle.decode_pool.specs.Finishing.{AreWithin}
use Rattle.decode_pool.proofs.gathering.are_within.Given as goal

abbrev pub invariant-loop-seat : goal.invariant-loop-seat
invariant-loop-seat l = AreWithin l.opened (take l.seat-index l.seats)
