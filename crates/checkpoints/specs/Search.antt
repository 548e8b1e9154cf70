-- How many places are in front of a place.
use Rattle.std.specs.Prelude.{ℕ, List, nat_le, nat_lt}
use Rattle.std.specs.List.{prefix_len}

-- how many places at the front aren't above this one
abbrev pub places_up_to : List ℕ → ℕ → ℕ
places_up_to places place = prefix_len (λ other. nat_le other place) places

-- how many places at the front are below this one
abbrev pub places_below : List ℕ → ℕ → ℕ
places_below places place = prefix_len (λ other. nat_lt other place) places
