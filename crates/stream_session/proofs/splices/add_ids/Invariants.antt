use Rattle.std.proofs.Common.{◌≡◌, ◌++◌, take}
use Rattle.stream_edits.specs.Streams.{ids_of}
use Rattle.stream_session.proofs.splices.add_ids.Given as goal

-- the ids of the units so far were added
abbrev pub invariant-loop-unit : goal.invariant-loop-unit
invariant-loop-unit l = l.ids.items ≡ l.initial.ids.items ++ ids_of (take l.unit-index l.units)
