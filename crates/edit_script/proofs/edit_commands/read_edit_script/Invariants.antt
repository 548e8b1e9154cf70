use Rattle.std.proofs.Common.{◌++◌, map}
use Rattle.std.specs.Vec.Iter.{into_iter_items}
use Rattle.edit_script.specs.EditScripts.{numbered_command}
use Rattle.edit_script.specs.Scripts.{read_lines, AreRead}
use Rattle.edit_script.proofs.edit_commands.read_edit_script.Given as goal

abbrev pub invariant-loop-number : goal.invariant-loop-number
invariant-loop-number l =
    AreRead (read_lines l.text) (map numbered_command l.commands.items ++ into_iter_items l.number-iterator) l.wrong
