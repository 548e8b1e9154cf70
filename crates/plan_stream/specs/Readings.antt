-- What the texts of access units within a stream are read as, one after the other.
use Rattle.std.specs.Prelude.{◌≡◌, ℕ, ◌<◌, List, [], ◌++◌, length, Result, Ok, Err}
use Rattle.std.specs.List.{flat_map}
use Rattle.annexb.specs.ByteStream.{HasUnits, joined}
use Rattle.annexb.specs.AccessUnits.{IsCut}
use Rattle.access_unit.specs.Answers.{IsAccepted, IsRefused}
use Rattle.access_unit.specs.Coded.{HasRest}
use Rattle.access_unit.specs.declared.refused.Refused.{Refused}
use Rattle.access_unit.specs.declared.refused.Refused.TheVariants as refusals

-- a refusal of the text: memory ran out, it has no NAL units, or those that it has are refused so, joined
abbrev pub IsFrontRefused : List ℕ → Refused → Type 0
IsFrontRefused text refusals.Memory = Unit {0}
IsFrontRefused text refusals.Split = (units : List (List ℕ)) → ¬ HasUnits text units
IsFrontRefused text refused =
    (part : List (List ℕ)) × HasUnits text part × IsRefused (joined part) refused

-- an answer for the text: its NAL units, which joined are an access unit, or its refusal
abbrev pub IsFrontReadAs : List ℕ → Result (List (List ℕ)) Refused → Type 0
IsFrontReadAs text (Ok unit) = HasUnits text unit × IsAccepted (joined unit) unit
IsFrontReadAs text (Err refused) = IsFrontRefused text refused

-- these are the access units of the text so far, and this is left of it: whatever access units that has, the text has
-- them after those; and a text of NAL units has no others left
pub record IsReadTo (text : List ℕ) (done : List (List (List ℕ))) (left : List ℕ) : Type 0 where
  pub whole :
      (more : List (List ℕ)) (parts : List (List (List ℕ))) → HasRest left more → IsCut more parts
      → HasRest text (flat_map (λ part. part) done ++ more) × IsCut (flat_map (λ part. part) done ++ more) (done ++ parts)
  pub only :
      (units : List (List ℕ)) → HasUnits text units
      → (more : List (List ℕ)) × HasRest left more × (0 < length left → 0 < length more)
  pub started : done ≡ [] → left ≡ text
  pub filled : 0 < length done → 0 < length (flat_map (λ part. part) done)
