use Rattle.output_order.proofs.Placed.{AreInOrder, ArePlaced}
use Rattle.output_order.proofs.positions_by_key.positions.Given as goal

abbrev pub invariant-loop-position : goal.invariant-loop-position
invariant-loop-position l = record {
  in_order : AreInOrder l.outcomes l.key-items;
  placed : ArePlaced l.outcomes l.key-items l.position l.positions.items;
}
