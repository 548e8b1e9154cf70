use Rattle.std.proofs.Common.{◌≡◌, ◌++◌}
use Rattle.edit_script.specs.Lines.{numbered_of}
use Rattle.edit_script.specs.Scripts.{read_lines}
use Rattle.edit_script.proofs.NumberedLines.{left_from}
use Rattle.edit_script.proofs.lines.numbered_lines.Given as goal

abbrev pub invariant-loop-index : goal.invariant-loop-index
invariant-loop-index l = numbered_of l.numbered.items ++ left_from l.line-items l.index ≡ read_lines l.text
