use Rattle.std.proofs.Common.{◌-◌, ◌≤◌, length, drop}
use Rattle.edit_script.specs.Lines.{numbered_of}
use Rattle.edit_script.specs.Scripts.{read_lines}
use Rattle.edit_script.proofs.ReadCommands.{IsDone}
use Rattle.edit_script.proofs.reading.read_commands.Given as goal

abbrev pub invariant-loop-at : goal.invariant-loop-at
invariant-loop-at l = record {
  within : l.at ≤ length l.lines;
  done : IsDone (read_lines l.text) (drop l.at (numbered_of l.lines)) l.commands.items;
}

abbrev pub decreases-loop-at : goal.decreases-loop-at
decreases-loop-at l = length l.lines - l.at
