use Rattle.std.proofs.Common.{◌≡◌, ◌≤◌, ◌+◌, ◌-◌, ◌*◌, length}
use Rattle.slice_header.specs.DecRefPicMarkingSyntax.{operation_table, operations_syntax}
use Rattle.expgolomb.specs.Structures.{syntax_at, ended}
use Rattle.slice_header.proofs.marking_syntax.operations.Given as goal

-- the operations so far, and then what is left, are the whole; one was read a turn
abbrev pub invariant-loop : goal.invariant-loop
invariant-loop l = record {
  so_far : syntax_at operations_syntax l.initial.bits ≡ syntax_at (ended operation_table (64 - l.counter) l.operations) l.bits;
  few : length l.operations ≤ l.counter;
  near : l.bits.before ≤ l.initial.bits.before + 189 * l.counter;
}
