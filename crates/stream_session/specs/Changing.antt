-- The units that an edit changed.
use Rattle.std.specs.Prelude.{List}
use Rattle.std.specs.List.{zip}
use Rattle.request_core.specs.Fold.{outcomes_of}
use Rattle.decode_jobs.specs.Keys.{Key}
use Rattle.picture_keys.specs.Known.{keys_of}
use Rattle.picture_keys.specs.declared.changed_units.changed.Changed.{Changed}
use Rattle.picture_keys.specs.Units.{ComparedUnit, compared_units}
use Rattle.picture_keys.specs.Ranges.{IsLeast}
use Rattle.stream_edits.specs.Streams.{Stream, ids_of}

-- a stream's units as they are compared: by their ids, and by their keys or their faults
abbrev pub compared_in : Stream → List (ComparedUnit Key)
compared_in stream =
    compared_units (ids_of stream) (outcomes_of stream) (keys_of (zip (ids_of stream) (outcomes_of stream)))

-- the range of places of the stream after is the least one that has every unit that changed
abbrev pub ChangesUnits : Stream → Stream → Changed → Type 0
ChangesUnits old new changed = IsLeast (compared_in old) (compared_in new) changed
