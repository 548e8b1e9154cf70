-- What a text is read as, of a stream for which there is room.
use Rattle.std.specs.Prelude.{ℕ, ◌<◌, ◌≤◌, List, length, Result, Ok, Err}
use Rattle.std.specs.Global.{Vec}
use Rattle.annexb.specs.ByteStream.{HasUnits}
use Rattle.access_unit.specs.Streams.{HasAccessUnits, AreAccepted, IsFirstRefused}
use Rattle.access_unit.specs.declared.stream.StreamRefused.{StreamRefused}
use Rattle.access_unit.specs.declared.stream.StreamRefused.TheVariants as stream
use Rattle.access_unit.specs.declared.stream_units.ReadFault.{ReadFault}
use Rattle.access_unit.specs.declared.stream_units.ReadFault.TheVariants.{Memory, Refused}
use Rattle.access_unit.specs.declared.stream_units.Refusal.{Refusal}
use Rattle.access_unit.specs.declared.stream_units.Refusal.TheVariants.{Split, Unit, StreamFull}

-- how many access units a stream has at most
abbrev pub most_units : ℕ
most_units = 65536

-- what it is here that a stream is refused
abbrev pub fault_of : StreamRefused → ReadFault
fault_of stream.Split = Refused Split
fault_of (stream.Unit index refused) = Refused (Unit index refused)
fault_of stream.Memory = Memory

-- the text is a stream of these access units
pub record IsStream (text : List ℕ) (parts : List (List (List ℕ))) : Type 0 where
  pub has : HasAccessUnits text parts
  pub accepted : AreAccepted parts

-- the stream is refused so where there is room for so many units
abbrev pub IsStreamRefused : List ℕ → ℕ → Refusal → Type 0
IsStreamRefused text limit Split = (units : List (List ℕ)) → ¬ HasUnits text units
IsStreamRefused text limit (Unit index refused) =
    (parts : List (List (List ℕ))) × HasAccessUnits text parts × IsFirstRefused parts index refused
IsStreamRefused text limit StreamFull = (parts : List (List (List ℕ))) × IsStream text parts × (limit < length parts)

-- an answer for the text: its access units, its refusal, or, for a text of NAL units, that memory ran out
abbrev pub IsReadAs : List ℕ → ℕ → Result (Vec (List (List ℕ))) ReadFault → Type 0
IsReadAs text limit (Ok units) = IsStream text units.items × (length units.items ≤ limit)
IsReadAs text limit (Err (Refused refusal)) = IsStreamRefused text limit refusal
IsReadAs text limit (Err Memory) = (units : List (List ℕ)) × HasUnits text units
