-- The byte stream: which units a text has (ITU-T H.264, B.1).
use Rattle.std.specs.Prelude.{◌≡◌, ℕ, ◌+◌, ◌<◌, List, [], ◌∷◌, ◌++◌, length, drop, replicate}
use Rattle.std.specs.List.{flat_map}
use Rattle.annexb.specs.NalUnit.{IsUnit}

-- what stands before each unit
abbrev pub start_code : List ℕ
start_code = 0 ∷ 0 ∷ 1 ∷ []

-- a start code ends at the place
pub record FollowsStartCode (text : List ℕ) (at : ℕ) : Type 0 where
  pub start : ℕ
  pub place : start + 3 ≡ at
  pub code : drop start text ≡ start_code ++ drop at text

-- the bytes are a start code, the unit, zeros or none, and the rest
pub record BeginsWithUnit (bytes unit rest : List ℕ) : Type 0 where
  pub zeros : ℕ
  pub bytes_are : bytes ≡ start_code ++ (unit ++ (replicate zeros 0 ++ rest))
  pub unit_is : IsUnit unit

-- the bytes are the units, each with its start code before it and zeros or none after it
abbrev pub AreUnits : List ℕ → List (List ℕ) → Type 0
AreUnits bytes [] = bytes ≡ []
AreUnits bytes (unit ∷ units) =
    (rest : List ℕ) × BeginsWithUnit bytes unit rest × AreUnits rest units

-- the text is zeros or none, and then one unit or more
pub record HasUnits (text : List ℕ) (units : List (List ℕ)) : Type 0 where
  pub zeros : ℕ
  pub rest : List ℕ
  pub text_is : text ≡ replicate zeros 0 ++ rest
  pub rest_is : AreUnits rest units
  pub filled : 0 < length units

-- the plainest text of the units: each with a start code before it
abbrev pub joined : List (List ℕ) → List ℕ
joined units = flat_map (λ unit. start_code ++ unit) units
