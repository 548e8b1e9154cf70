use Rattle.std.proofs.Common.{take}
use Rattle.stream_edits.specs.Snapshots.{AreReadAs}
use Rattle.stream_edits.proofs.snapshots.texts.read_texts.Given as goal

-- the texts so far are read
abbrev pub invariant-loop-text : goal.invariant-loop-text
invariant-loop-text l = AreReadAs (take l.text-index l.texts) l.units.items
