use Rattle.std.proofs.Common.{List, ◌++◌, take}
use Rattle.stream_svg.specs.declared.unit.DrawnReference.{DrawnReference}
use Rattle.draw_run.specs.Lists.{AreEachOnce, named_by}
use Rattle.draw_run.proofs.unit_drawing.lists.add_list.Given as goal

abbrev pub invariant-loop-entry : goal.invariant-loop-entry
invariant-loop-entry l = (before : List DrawnReference) → AreEachOnce before l.fn.references.items
    → AreEachOnce (before ++ named_by l.request l.list (take l.entry-index l.entries)) l.references.items
