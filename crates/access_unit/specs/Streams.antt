-- What reading a stream answers: its access units, each read by itself (ITU-T H.264, 7.4.1.2.3).
use Rattle.std.specs.Prelude.{ℕ, ◌<◌, List, [], length, take, slice_index_or, All, Result, Ok, Err, ⊤}
use Rattle.std.specs.Global.{Vec}
use Rattle.annexb.specs.ByteStream.{HasUnits, joined}
use Rattle.annexb.specs.AccessUnits.{IsCut}
use Rattle.access_unit.specs.declared.refused.Refused.{Refused}
use Rattle.access_unit.specs.declared.stream.StreamRefused.{StreamRefused}
use Rattle.access_unit.specs.declared.stream.StreamRefused.TheVariants.{Split, Unit, Memory}
use Rattle.access_unit.specs.Answers.{IsAccepted, IsRefused}

-- the text has these access units, each a list of NAL units
pub record HasAccessUnits (text : List ℕ) (parts : List (List (List ℕ))) : Type 0 where
  pub units : List (List ℕ)
  pub has : HasUnits text units
  pub cut : IsCut units parts

-- joined, each is the text of an access unit
abbrev pub AreAccepted : List (List (List ℕ)) → Type 0
AreAccepted parts = All (λ part. IsAccepted (joined part) part) parts

-- the one at the index is refused so, and those before it are accepted
pub record IsFirstRefused (parts : List (List (List ℕ))) (index : ℕ) (refused : Refused) : Type 0 where
  pub in_range : index < length parts
  pub is_refused : IsRefused (joined (slice_index_or parts index [])) refused
  pub before : AreAccepted (take index parts)

-- an answer for the stream: its access units, the first that is refused, or that memory ran out
abbrev pub IsStreamReadAs : List ℕ → Result (Vec (List (List ℕ))) StreamRefused → Type 0
IsStreamReadAs text (Ok units) = HasAccessUnits text units.items × AreAccepted units.items
IsStreamReadAs text (Err Split) = (units : List (List ℕ)) → ¬ HasUnits text units
IsStreamReadAs text (Err (Unit index refused)) =
    (parts : List (List (List ℕ))) × HasAccessUnits text parts × IsFirstRefused parts index refused
IsStreamReadAs text (Err Memory) = ⊤

-- the number that stands for a refusal
abbrev pub number_of : StreamRefused → ℕ
number_of Split = 1
number_of (Unit index refused) = 2
number_of Memory = 3
