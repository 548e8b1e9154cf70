use Rattle.std.proofs.Common.{◌++◌}
use Rattle.std.specs.Vec.Iter.{into_iter_items}
use Rattle.edit_script.specs.Kinds.{AreOfKind}
use Rattle.edit_script.specs.Scripts.{read_lines, AreRead}
use Rattle.edit_script.proofs.reading.read_kind.Given as goal

abbrev pub invariant-loop-number : goal.invariant-loop-number
invariant-loop-number g l = record {
  read : AreRead (read_lines l.text) (l.yielded ++ into_iter_items l.number-iterator) l.wrong;
  of_kind : AreOfKind g.K.FromCommand.as_command l.yielded l.commands.items;
}
