-- The lines that answer what a seat wants of a desk's workers (docs/OUTPUT.md).
use Rattle.std.specs.Prelude.{ℕ, ◌++◌, nat_lt, Bool, true, false, List, codes, decimal, length, if◌then◌else◌}

-- the line of so many ids that are wanted first
abbrev pub wanted_line : ℕ → List ℕ
wanted_line count = codes "wanted " ++ (decimal count ++ codes "\n")

-- the line of more ids than may be wanted
abbrev pub too_many_line : List ℕ
too_many_line = codes "refused 22 TooManyWanted\n"

-- the line that answers who wants these ids
abbrev pub want_line : List ℕ → List ℕ
want_line ids = if nat_lt 64 (length ids) then too_many_line else wanted_line (length ids)

-- the line that the rest of the stream is decoded too, or isn't
abbrev pub rest_line : Bool → List ℕ
rest_line true = codes "rest on\n"
rest_line false = codes "rest off\n"
