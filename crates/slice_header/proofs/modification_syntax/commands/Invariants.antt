use Rattle.std.proofs.Common.{◌≡◌, ◌≤◌, ◌+◌, ◌-◌, ◌*◌, []}
use Rattle.slice_header.specs.RefPicListModificationSyntax.{command_table}
use Rattle.expgolomb.specs.Structures.{syntax_at, ended}
use Rattle.slice_header.proofs.modification_syntax.commands.Given as goal

-- the commands so far, and then what is left, are the whole
abbrev pub invariant-loop : goal.invariant-loop
invariant-loop l = record {
  so_far : syntax_at (ended (command_table l.max_frame_num) l.entries []) l.initial.bits ≡ syntax_at (ended (command_table l.max_frame_num) (l.entries - l.counter) l.commands) l.bits;
  near : l.bits.before ≤ l.initial.bits.before + 126 * l.counter;
}
