-- What the answers for the access units of a stream come to (ITU-T H.264, 7.4.1.2.3).
use Rattle.std.specs.Prelude.{◌≡◌, ◌≢◌, ℕ, ◌≤◌, Bool, true, false, List, ◌∷◌, ◌++◌, length, map, slice_range, Result, Ok, Err, ⊤}
use Rattle.std.specs.Global.{Vec}
use Rattle.std.specs.declared.ops.Range.{Range}
use Rattle.annexb.specs.ByteStream.{HasUnits, joined}
use Rattle.access_unit.specs.declared.refused.Refused.{Refused}
use Rattle.access_unit.specs.declared.refused.Refused.TheVariants as refusals
use Rattle.access_unit.specs.declared.stream.StreamRefused.{StreamRefused}
use Rattle.access_unit.specs.declared.stream.StreamRefused.TheVariants.{Split, Unit, Memory}

-- the range is one of the NAL units, which are those of their own text
pub record HasUnitsAt (units : List (List ℕ)) (range : Range ℕ) : Type 0 where
  pub ordered : range.start ≤ range.end
  pub within : range.end ≤ length units
  pub has :
      HasUnits (joined (slice_range units range.start range.end)) (slice_range units range.start range.end)

-- an answer for an access unit: that memory ran out
abbrev pub wants_memory : {A : Type 0} → Result A Refused → Bool
wants_memory (Ok unit) = false
wants_memory (Err refusals.Memory) = true
wants_memory (Err refused) = false

-- the answers are those units, then one that is refused so for other reasons than memory, and others
pub record IsStoppedAt (answers : List (Result (List (List ℕ)) Refused)) (index : ℕ) (refused : Refused) : Type 0 where
  pub units : List (List (List ℕ))
  pub others : List (Result (List (List ℕ)) Refused)
  pub answers_are : answers ≡ map Ok units ++ Err refused ∷ others
  pub index_is : index ≡ length units
  pub not_memory : refused ≢ refusals.Memory

-- what the answers for the access units come to: all units, the first that is refused, or that memory ran out
abbrev pub IsGathered : List (Result (List (List ℕ)) Refused) → Result (Vec (List (List ℕ))) StreamRefused → Type 0
IsGathered answers (Ok units) = answers ≡ map Ok units.items
IsGathered answers (Err Split) = ⊥
IsGathered answers (Err (Unit index refused)) = IsStoppedAt answers index refused
IsGathered answers (Err Memory) = ⊤
