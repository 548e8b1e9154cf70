-- What of a stream's units decides about breaks and doubt.
use Rattle.std.specs.Prelude.{ℕ, zero, suc, ◌+◌, List, [], ◌∷◌, length, map}
use Rattle.unit_outcomes.specs.References.{is_of_reference}
use Rattle.unit_outcomes.specs.SeenUnits.{SeenUnit, seen_units}
use Rattle.unit_outcomes.specs.declared.outcome.Outcome.{Outcome}

-- so many ids from this one on
abbrev pub ids_from : ℕ → ℕ → List ℕ
ids_from id zero = []
ids_from id (suc count) = id ∷ ids_from (id + 1) count

-- the units of a stream with these outcomes, whose ids are 1, 2, 3 and so on
abbrev pub stream_seen : List (List (List ℕ)) → List Outcome → List SeenUnit
stream_seen units outcomes = seen_units (ids_from 1 (length units)) (map is_of_reference units) outcomes
