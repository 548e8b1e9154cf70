use Rattle.std.proofs.Common.{take}
use Rattle.edit_script.specs.Lines.{numbered_of}
use Rattle.edit_script.specs.Scripts.{AreEdits}
use Rattle.edit_script.proofs.groups.read_group.Given as goal

abbrev pub invariant-loop-index : goal.invariant-loop-index
invariant-loop-index l = AreEdits (numbered_of (take l.index l.lines)) l.edits.items
