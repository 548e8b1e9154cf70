-- A splice: units in the place of others.
use Rattle.std.specs.Prelude.{◌≡◌, ℕ, ◌≤◌, List, ◌++◌, length, take, drop}
use Rattle.unit_outcomes.specs.declared.outcome.Outcome.{Outcome}
use Rattle.picture_store.specs.declared.changing.UnitSplice.{UnitSplice}

-- a list with other items in the place of those from one place on and below another
abbrev pub replaced : {X : Type 0} → ℕ → ℕ → List X → List X → List X
replaced from to made items = take from items ++ made ++ drop to items

-- the units that go are among those that have these ids, and each one that comes has its outcome
pub record IsSplice (splice : UnitSplice) (ids : List ℕ) : Type 0 where
  pub ordered : splice.from ≤ splice.to
  pub within : splice.to ≤ length ids
  pub same : length splice.ids.items ≡ length splice.outcomes.items

-- the ids of a stream with the splice
abbrev pub ids_with : UnitSplice → List ℕ → List ℕ
ids_with splice ids = replaced splice.from splice.to splice.ids.items ids

-- the outcomes of its units
abbrev pub outcomes_with : UnitSplice → List Outcome → List Outcome
outcomes_with splice outcomes = replaced splice.from splice.to splice.outcomes.items outcomes
