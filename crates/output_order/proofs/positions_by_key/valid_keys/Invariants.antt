use Rattle.output_order.proofs.Keys.{AreKeysBefore}
use Rattle.output_order.proofs.positions_by_key.valid_keys.Given as goal

abbrev pub invariant-loop-place : goal.invariant-loop-place
invariant-loop-place l = AreKeysBefore l.outcomes l.place l.period l.keys.items
