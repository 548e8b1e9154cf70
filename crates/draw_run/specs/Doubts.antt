-- What a drawing tells of units in doubt.
use Rattle.std.specs.Prelude.{ℕ, ◌-◌, ◌==◌, ◌++◌, Bool, true, false, List, [], Option, None, Some, codes, decimal, slice_get, if◌then◌else◌}
use Rattle.unit_outcomes.specs.declared.doubts.walk.Doubt.{Doubt}

-- nothing is told of a unit
abbrev pub no_doubt : Doubt
no_doubt = record { follows = None; in_doubt = false }

-- what is told of a unit, if there is one
abbrev pub told_or : Option Doubt → Doubt
told_or None = no_doubt
told_or (Some doubt) = doubt

-- what is told of the unit with an id, of all that is told of its stream
abbrev pub doubt_in : List Doubt → ℕ → Doubt
doubt_in doubts id = if id == 0 then no_doubt else told_or (slice_get doubts (id - 1))

-- the words for a unit that follows the break of this id
abbrev pub follows_words : ℕ → List ℕ
follows_words id = codes "in doubt: follows the fault of unit " ++ (decimal id ++ codes "\n")

-- which break a unit in doubt follows
abbrev pub follows_line : Option ℕ → List ℕ
follows_line None = []
follows_line (Some id) = follows_words id

-- the line that is said of a unit in doubt
abbrev pub line_by : Bool → Option ℕ → List ℕ
line_by false follows = []
line_by true follows = follows_line follows

abbrev pub doubt_line : Doubt → List ℕ
doubt_line doubt = line_by doubt.in_doubt doubt.follows
