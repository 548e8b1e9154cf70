use Rattle.std.proofs.Common.{◌≡◌, take}
use Rattle.stream_edits.specs.Streams.{ids_of}
use Rattle.stream_edits.proofs.draft.ids_in.Given as goal

-- the ids of the units so far
abbrev pub invariant-loop-unit : goal.invariant-loop-unit
invariant-loop-unit l = l.ids.items ≡ ids_of (take l.unit-index l.units)
