use Rattle.std.proofs.Common.{◌≡◌, ◌≤◌, ◌+◌, ◌-◌, ◌*◌}
use Rattle.slice_header.specs.PredWeightTableSyntax.{entry_syntax, entries_syntax}
use Rattle.expgolomb.specs.Structures.{syntax_at, counted}
use Rattle.slice_header.proofs.weight_syntax.weights.Given as goal

-- the weights so far, and then those of the entries that are left, are the whole
abbrev pub invariant-loop : goal.invariant-loop
invariant-loop l = record {
  so_far : syntax_at (entries_syntax l.has_chroma l.denominators l.entries) l.initial.bits ≡ syntax_at (counted (entry_syntax l.has_chroma l.denominators) (l.entries - l.counter) l.weights) l.bits;
  near : l.bits.before ≤ l.initial.bits.before + 504 * l.counter;
}
