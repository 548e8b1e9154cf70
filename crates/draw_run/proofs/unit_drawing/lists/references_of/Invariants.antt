use Rattle.std.proofs.Common.{take}
use Rattle.std.specs.List.{flat_map}
use Rattle.draw_run.specs.Lists.{AreEachOnce, named_of}
use Rattle.draw_run.proofs.unit_drawing.lists.references_of.Given as goal

abbrev pub invariant-loop-request : goal.invariant-loop-request
invariant-loop-request l = AreEachOnce (flat_map named_of (take l.request-index l.requests)) l.references.items
