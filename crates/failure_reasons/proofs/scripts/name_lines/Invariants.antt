use Rattle.std.proofs.Common.{take}
use Rattle.edit_script.specs.Words.{texts_of}
use Rattle.failure_reasons.specs.FailureReasonsLines.{AreFileLines}
use Rattle.failure_reasons.proofs.scripts.name_lines.Given as goal

abbrev pub invariant-loop-name : goal.invariant-loop-name
invariant-loop-name g l =
    AreFileLines (g.D.Again.bytes l.directory) (texts_of (take l.name-index l.names)) l.lines.items
