-- What a change of one range does to the places behind it.
use Rattle.std.specs.Prelude.{ℕ, ◌+◌, ◌-◌, length, nat_lt, if◌then◌else◌}
use Rattle.checkpoints.specs.declared.shifting.LengthChange.{LengthChange}
use Rattle.checkpoints.specs.declared.shifting.LengthChange.TheVariants.{Longer, Shorter}
use Rattle.checkpoints.specs.Changes.{changed}
use Rattle.stream_edits.specs.declared.changes.Change.{Change}
use Rattle.stream_edits.specs.Changes.{at_of, rest_from, units_of}

-- the place past the units that it brings
abbrev pub brought_to : Change → ℕ
brought_to change = at_of change + length (units_of change)

-- how a range's end moves
abbrev pub change_between : ℕ → ℕ → LengthChange
change_between old new = if nat_lt new old then Shorter (old - new) else Longer (new - old)

-- how the stream's length changes
abbrev pub length_change : Change → LengthChange
length_change change = change_between (rest_from change) (brought_to change)

-- the place to which a place among the units behind the change comes
abbrev pub place_after : Change → ℕ → ℕ
place_after change place = changed (length_change change) place
