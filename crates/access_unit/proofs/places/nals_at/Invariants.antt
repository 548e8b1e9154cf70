use Rattle.std.proofs.Common.{◌≡◌, take}
use Rattle.access_unit.specs.Places.{units_at}
use Rattle.access_unit.proofs.places.nals_at.Given as goal

abbrev pub invariant-loop-place : goal.invariant-loop-place
invariant-loop-place l = l.nals.items ≡ units_at l.text (take l.place-index l.places)
