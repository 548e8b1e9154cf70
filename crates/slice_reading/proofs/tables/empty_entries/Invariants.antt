use Rattle.std.proofs.Common.{◌≡◌, None, replicate}
use Rattle.slice_reading.proofs.tables.empty_entries.Given as goal

abbrev pub invariant-loop : goal.invariant-loop
invariant-loop g l = l.entries.items ≡ replicate l.counter None
