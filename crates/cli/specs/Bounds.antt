-- Numbers that a command line may ask for (docs/OUTPUT.md).
use Rattle.std.specs.Prelude.{ℕ}

-- the most workers that may be asked for
abbrev pub most_workers : ℕ
most_workers = 64

-- the greatest id of a unit
abbrev pub most_id : ℕ
most_id = 4294967295

-- the most units that one drawing shows
abbrev pub most_drawn : ℕ
most_drawn = 1000
