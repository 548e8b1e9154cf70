-- The numbers of the keys of a stream's units, found one after the other.
use Rattle.std.specs.Prelude.{ℕ, List, Option}
use Rattle.h264_controls.specs.declared.request.RequestBody.{RequestBody}
use Rattle.unit_outcomes.specs.declared.outcome.Outcome.{Outcome}
use Rattle.decode_jobs.specs.KeyMaps.{KeyMap}
use Rattle.picture_keys.specs.Known.{Known, key_of_outcome, known_with, known_after, keys_after}
use Rattle.picture_keys.specs.Numbered.{Numbers, StandsFor, AreNumbered, AllStandFor}

-- the numbers by the units' ids, and in the order of the units, nothing for one that isn't valid
pub record UnitNumbers : Type 0 where
  pub numbers : Numbers
  pub found : List (Option ℕ)

-- they are those of the keys of these units, each with its id and its outcome, after those whose
-- keys are known
pub record Follow (keys : KeyMap (List RequestBody)) (known : Known) (units : List (ℕ × Outcome)) (found : UnitNumbers) : Type 0 where
  pub numbered : AreNumbered keys found.numbers (known_after known units)
  pub stand : AllStandFor keys found.found (keys_after known units)

-- the numbers stand for some keys
abbrev pub AreNumberedSome : KeyMap (List RequestBody) → Numbers → Type 0
AreNumberedSome keys numbers = (known : Known) × AreNumbered keys numbers known

-- a unit was given the number of its key, after those whose keys are known; one that isn't valid
-- has none
pub record HasNumber (keys : KeyMap (List RequestBody)) (numbers : Numbers) (known : Known) (id : ℕ) (outcome : Outcome)
    (number : Option ℕ) : Type 0 where
  pub numbered : AreNumbered keys numbers (known_with known id (key_of_outcome known outcome))
  pub stands : StandsFor keys number (key_of_outcome known outcome)
