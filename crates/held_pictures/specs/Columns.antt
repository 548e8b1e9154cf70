-- What is kept of the units of a stream, column by column.
use Rattle.std.specs.Prelude.{◌≡◌, ℕ, List, Option, length}
use Rattle.std.specs.List.{zip}
use Rattle.h264_controls.specs.declared.request.RequestBody.{RequestBody}
use Rattle.unit_outcomes.specs.declared.outcome.Outcome.{Outcome}
use Rattle.decode_jobs.specs.KeyMaps.{KeyMap, IsKeyMap}
use Rattle.picture_keys.specs.Known.{keys_of}
use Rattle.picture_keys.specs.Numbered.{AllStandFor}

-- there are as many of each, no key has two numbers, and the numbers are those of the units' keys
pub record AreColumns (keys : KeyMap (List RequestBody)) (ids : List ℕ) (outcomes : List Outcome) (numbers : List (Option ℕ)) : Type 0 where
  pub outcomes_many : length outcomes ≡ length ids
  pub found_many : length numbers ≡ length ids
  pub one : IsKeyMap keys
  pub stand : AllStandFor keys numbers (keys_of (zip ids outcomes))
