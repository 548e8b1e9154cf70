-- Which units of a stream a drawing shows (docs/OUTPUT.md).
use Rattle.std.specs.Prelude.{ℕ, zero, suc, ◌+◌, ◌-◌, ◌==◌, List, [], ◌∷◌, Option, None, take, drop, slice_get, if◌then◌else◌, option_and_then}
use Rattle.unit_outcomes.specs.declared.outcome.Outcome.{Outcome}
use Rattle.draw_run.specs.declared.drawn_fold.KeptUnit.{KeptUnit}

-- units with ids from this one on, by the outcome of each
abbrev pub kept_from : ℕ → List Outcome → List KeptUnit
kept_from id [] = []
kept_from id (outcome ∷ outcomes) = record { id = id; outcome = outcome } ∷ kept_from (id + 1) outcomes

-- so many of the units with the ids 1, 2, 3 and so on, from one on; none where no unit has that id
abbrev pub chosen : ℕ → ℕ → List KeptUnit → List KeptUnit
chosen zero units all = []
chosen (suc before) units all = take units (drop before all)

-- the position of the unit with an id, of which these are all positions of its stream
abbrev pub position_in : List (Option ℕ) → ℕ → Option ℕ
position_in positions id =
    if id == 0 then None else option_and_then (λ position. position) (slice_get positions (id - 1))
