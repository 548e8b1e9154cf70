use Rattle.std.proofs.Common.{◌≡◌, drop}
use Rattle.decode_jobs.specs.Marks.{named_marked}
use Rattle.decode_jobs.proofs.dep_keys.marks.mark_named.Given as goal

abbrev pub invariant-loop-entry : goal.invariant-loop-entry
invariant-loop-entry l = named_marked l.marks (drop l.entry-index l.entries) ≡ named_marked l.initial.marks l.entries
