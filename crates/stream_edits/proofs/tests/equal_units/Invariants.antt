use Rattle.std.proofs.Common.{◌≡◌}
use Rattle.stream_edits.specs.Ids.{HasIds}
use Rattle.stream_edits.specs.Streams.{ids_of}
use Rattle.stream_edits.proofs.tests.equal_units.Given as goal

-- the units so far have the ids up to the last that was given
abbrev pub invariant-loop-ids_given : goal.invariant-loop-ids_given
invariant-loop-ids_given g l =
    (HasIds (record { ids_given = l.ids_given; stream = l.units.0.items })) × (l.units.1.items ≡ ids_of l.units.0.items)
