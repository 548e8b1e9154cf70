-- The units of a stream as breaks and doubt see them.
use Rattle.std.specs.Prelude.{Bool, List, map}
use Rattle.unit_outcomes.specs.declared.outcome.Outcome.{Outcome}
use Rattle.request_core.specs.Fold.{outcomes_of}
use Rattle.unit_outcomes.specs.References.{is_of_reference}
use Rattle.unit_outcomes.specs.SeenUnits.{SeenUnit, seen_units}
use Rattle.stream_edits.specs.Streams.{Stream, ids_of}

-- of each unit, whether nal_ref_idc of its first slice isn't 0 (7.4.1)
abbrev pub references_of : Stream → List Bool
references_of stream = map (λ unit. is_of_reference unit.1) stream

-- the units, with these outcomes
abbrev pub seen_with : Stream → List Outcome → List SeenUnit
seen_with stream outcomes = seen_units (ids_of stream) (references_of stream) outcomes

-- the units, with the outcomes of the plain fold
abbrev pub seen_in : Stream → List SeenUnit
seen_in stream = seen_with stream (outcomes_of stream)
