use Rattle.picture_store.specs.Settled.{AreSettled}
use Rattle.picture_store.proofs.due.first_to_do.Given as goal

abbrev pub invariant-loop-at : goal.invariant-loop-at
invariant-loop-at g l = AreSettled l.key_slots l.out l.numbers l.at
