use Rattle.std.proofs.Common.{◌≡◌, map, take}
use Rattle.slice_decoding.specs.declared.ref_lists.initial_lists.Standing.{Standing}
use Rattle.slice_decoding.proofs.ref_lists.initial_lists.places.Given as goal

abbrev pub invariant-loop-standing : goal.invariant-loop-standing
invariant-loop-standing l = l.places.items ≡ map (λ (standing : Standing). standing.place) (take l.standing-index l.standings)
