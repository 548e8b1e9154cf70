use Rattle.std.proofs.Common.{◌≡◌, ◌++◌, map, take, drop}
use Rattle.output_order.specs.InPlace.{moved}
use Rattle.output_order.proofs.in_place.move_each.Given as goal

abbrev pub invariant-loop-key : goal.invariant-loop-key
invariant-loop-key l = l.keys ≡ map (moved l.from l.to) (take l.key-index l.initial.keys) ++ drop l.key-index l.initial.keys
