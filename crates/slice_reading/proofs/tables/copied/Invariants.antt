use Rattle.std.proofs.Common.{◌≡◌, take}
use Rattle.slice_reading.proofs.tables.copied.Given as goal

abbrev pub invariant-loop-entry : goal.invariant-loop-entry
invariant-loop-entry g l = l.copy.items ≡ take l.entry-index l.entries
