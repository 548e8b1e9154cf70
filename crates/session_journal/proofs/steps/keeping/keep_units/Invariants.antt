use Rattle.std.proofs.Common.{◌≡◌, ◌++◌, map, drop}
use Rattle.session_journal.specs.RecordRows.{row_of_unit}
use Rattle.session_journal.proofs.steps.keeping.keep_units.Given as goal

-- with what is kept of the units that are left it is what is kept of all
abbrev pub invariant-loop-unit : goal.invariant-loop-unit
invariant-loop-unit l = l.kept.items ++ map row_of_unit (drop l.unit-index l.units) ≡ l.fn.kept.items ++ map row_of_unit l.units
