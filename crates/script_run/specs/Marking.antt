-- The mark of a script's stream, and what is told of a unit since (docs/OUTPUT.md).
use Rattle.std.specs.Prelude.{◌≡◌, ℕ, ◌++◌, Bool, true, false, List, codes, decimal, Option, Some, None}
use Rattle.stand_in_session.specs.Machines.{Machine}
use Rattle.stream_session.specs.Altered.{AnswersAltered, with_mark}
use Rattle.edit_script.specs.Words.{id_of}

-- the line that the stream is marked
abbrev pub marked_line : List ℕ
marked_line = codes "marked\n"

-- whether a unit is altered, in a word, or that it isn't there
abbrev pub altered_word : Option Bool → List ℕ
altered_word (Some true) = codes "yes"
altered_word (Some false) = codes "no"
altered_word None = codes "none"

-- the line of whether the unit of a number is altered
abbrev pub altered_line : ℕ → Option Bool → List ℕ
altered_line number altered =
    codes "altered " ++ (decimal number ++ (codes " " ++ (altered_word altered ++ codes "\n")))

-- the stream is marked as it is, and the line says so
abbrev pub Marks : Machine → List ℕ → Machine → Type 0
Marks old line new = (new ≡ with_mark old) × (line ≡ marked_line)

-- the line says whether the unit of a number is altered
abbrev pub SaysAltered : Machine → ℕ → List ℕ → Type 0
SaysAltered machine number line =
    (altered : Option Bool) × AnswersAltered machine (id_of number) altered × (line ≡ altered_line number altered)
