-- The units of a stream under their ids.
use Rattle.std.specs.Prelude.{ℕ, ◌+◌, List, [], ◌∷◌}

-- the units with ids from this one on
abbrev pub numbered_from : ℕ → List (List (List ℕ)) → List (ℕ × List (List ℕ))
numbered_from id [] = []
numbered_from id (unit ∷ units) = (id, unit) ∷ numbered_from (id + 1) units
