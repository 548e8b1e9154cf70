use Rattle.std.specs.Prelude.{◌≡◌, map, take}
use Rattle.unit_outcomes.specs.References.{is_of_reference}
use Rattle.unit_printing.proofs.json.doubts.references.Given as goal

-- what was said of the units so far
abbrev pub invariant-loop-unit : goal.invariant-loop-unit
invariant-loop-unit l = l.references.items ≡ map is_of_reference (take l.unit-index l.units)
