-- A unit of a stream among those before and after it, with its key.
use Rattle.std.proofs.Common.{◌≡◌, refl, ap, ℕ, zero, suc, ◌<◌, List, [], ◌∷◌, ◌++◌, length, take, drop, Option, Some, arith}
use Rattle.std.specs.Prelude.{slice_get, slice_index_or}
use Rattle.std.specs.List.{zip}
use Rattle.unit_outcomes.specs.declared.outcome.Outcome.{Outcome}
use Rattle.decode_jobs.specs.Keys.{Key}
use Rattle.picture_keys.specs.Known.{Known, key_of_outcome, known_with, known_after, keys_after}
use Rattle.picture_keys.specs.Numbered.{AllStandFor}
use Rattle.picture_keys.specs.Decodable.{OutcomeCanDecode, AllCanDecode}
use Rattle.h264_controls.specs.declared.request.RequestBody.{RequestBody}
use Rattle.decode_jobs.specs.KeyMaps.{KeyMap}

-- the unit at a place, after those whose keys are known: it stands between those before and those
-- after it, and its key and whether it can be decoded are said by those before it
pub record IsAt (known : Known) (units : List (ℕ × Outcome)) (at : ℕ) (unit : ℕ × Outcome) : Type 0 where
  pub parts : units ≡ take at units ++ unit ∷ drop (suc at) units
  pub got : slice_get units at ≡ Some unit
  pub key : slice_get (keys_after known units) at ≡ Some (key_of_outcome (known_after known (take at units)) unit.1)
  pub can : AllCanDecode known units → OutcomeCanDecode (known_after known (take at units)) unit.1
  pub before : take at (keys_after known units) ≡ keys_after known (take at units)

pub unit_at : (known : Known) (units : List (ℕ × Outcome)) (at : ℕ) → at < length units
    → (unit : ℕ × Outcome) × IsAt known units at unit
unit_at known [] at within = absurd (omega (arith, within))
unit_at known (unit ∷ units) zero within =
    (unit, record { parts = refl; got = refl; key = refl; can = λ can. can.0; before = refl })
unit_at known (first ∷ units) (suc at) within =
    let found : (unit : ℕ × Outcome) × IsAt (known_with known first.0 (key_of_outcome known first.1)) units at unit =
    unit_at (known_with known first.0 (key_of_outcome known first.1)) units at (omega (arith, within)) in (
      found.0,
      record {
        parts = ap (λ rest. first ∷ rest) found.1.parts;
        got = found.1.got;
        key = found.1.key;
        can = λ can. found.1.can can.1;
        before = ap (λ rest. key_of_outcome known first.1 ∷ rest) found.1.before;
      },
    )

-- the unit's outcome
pub second_at : (ids : List ℕ) (outcomes : List Outcome) (at : ℕ) (unit : ℕ × Outcome) (outcome : Outcome)
    → slice_get (zip ids outcomes) at ≡ Some unit → outcome ≡ slice_index_or outcomes at outcome → at < length outcomes
    → unit.1 ≡ outcome
second_at [] outcomes at unit outcome got is within = cc
second_at (id ∷ ids) [] at unit outcome got is within = absurd (omega (arith, within))
second_at (id ∷ ids) (first ∷ outcomes) zero unit outcome got is within = cc
second_at (id ∷ ids) (first ∷ outcomes) (suc at) unit outcome got is within =
    second_at ids outcomes at unit outcome got is (omega (arith, within))

-- the first numbers stand for the first keys
pub stand_take : (keys : KeyMap (List RequestBody)) (found : List (Option ℕ)) (trees : List (Option Key)) (n : ℕ) → AllStandFor keys found trees
    → AllStandFor keys (take n found) (take n trees)
stand_take keys found trees zero all = tt
stand_take keys [] [] (suc n) all = tt
stand_take keys [] (tree ∷ trees) (suc n) all = absurd all
stand_take keys (first ∷ found) [] (suc n) all = absurd all
stand_take keys (first ∷ found) (tree ∷ trees) (suc n) all = (all.0, stand_take keys found trees n all.1)
