use Rattle.std.proofs.Common.{◌≡◌, ◌++◌, map, take, drop, vec_len}
use Rattle.std.specs.Vec.{vec_capacity}
use Rattle.checkpoints.specs.Changes.{moved}
use Rattle.checkpoints.proofs.shifting.move_places.Given as goal

abbrev pub invariant-loop-at : goal.invariant-loop-at
invariant-loop-at l = record {
  items : l.places.items ≡ map (moved l.from l.change) (take l.at l.initial.places.items) ++ drop l.at l.initial.places.items;
  len : vec_len l.places ≡ vec_len l.initial.places;
  capacity : vec_capacity l.places ≡ vec_capacity l.initial.places;
}
