use Rattle.decode_pool.specs.Seats.{AreNew}
use Rattle.decode_pool.proofs.stand_in.new_seats.Given as goal

abbrev pub invariant-loop-at : goal.invariant-loop-at
invariant-loop-at l = AreNew l.at l.made.items
