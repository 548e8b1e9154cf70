-- Which units follow a damage and are in doubt, as it is told.
use Rattle.std.specs.Prelude.{◌≡◌, ◌⊎◌, ◌-◌, ℕ, List, length, map, min}
use Rattle.std.specs.Option.{unwrap_or}
use Rattle.unit_outcomes.specs.InDoubt.{AreDoubts}
use Rattle.unit_outcomes.specs.declared.doubts.walk.Doubt.{Doubt}
use Rattle.stream_edits.specs.Streams.{Stream}
use Rattle.stream_session.specs.Doubting.{seen_in}
use Rattle.c_calls.specs.declared.doubting.UnitDoubt.{UnitDoubt}
use Rattle.c_calls.specs.Grouping.{filled}
use Rattle.c_calls.specs.Statuses.{done, memory}
use Rattle.c_calls.specs.Telling.{flag}

-- a unit's doubt, as it is told: the break that it follows, or 0, and whether it is in doubt
abbrev pub as_unit_doubt : Doubt → UnitDoubt
as_unit_doubt doubt = record { follows = unwrap_or doubt.follows 0; in_doubt = flag doubt.in_doubt }

-- how many units stand from a place on, at most as many as there is room for
abbrev pub count_from : Stream → ℕ → ℕ → ℕ
count_from stream from capacity = min capacity (length stream - from)

-- what is told of the units from a place on, at the start of the room for it, and how many they are; or
-- memory is refused, and all stays as it was
abbrev pub TellsDoubts : Stream → ℕ → ℕ → List UnitDoubt → List UnitDoubt → ℕ → ℕ → Type 0
TellsDoubts stream from status before after count counts =
    ((doubts : List Doubt) × AreDoubts (seen_in stream) from (count_from stream from (length before)) doubts
    × (status ≡ done) × (after ≡ filled (map as_unit_doubt doubts) before) × (counts ≡ length doubts))
    ⊎ ((status ≡ memory) × (after ≡ before) × (counts ≡ count))
