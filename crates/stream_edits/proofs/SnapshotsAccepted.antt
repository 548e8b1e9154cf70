-- What a session that begins from a snapshot needs of the stream.
use Rattle.std.proofs.Common.{ℕ, ◌≤◌, List, [], ◌∷◌, length}
use Rattle.std.proofs.lemmas.List.Elements.{All-nil, All-cons}
use Rattle.access_unit.specs.StreamUnits.{most_units}
use Rattle.stream_edits.specs.Edits.{Register}
use Rattle.stream_edits.specs.Ids.{HasIds}
use Rattle.stream_edits.specs.Streams.{Stream}
use Rattle.stream_edits.proofs.Accepted.{AreAccepted, IsNotRefused}
use Rattle.stream_edits.specs.Snapshots.{AreReadAs, IsAnyOf}

-- units that texts are read as aren't refused
accepted-read : (texts : List (ℕ × List ℕ)) (units : Stream) → AreReadAs texts units → AreAccepted units
accepted-read [] [] read = All-nil IsNotRefused
accepted-read (text ∷ texts) (unit ∷ units) read =
    All-cons IsNotRefused unit units read.1.sound (accepted-read texts units read.2)
accepted-read [] (unit ∷ units) read = absurd read
accepted-read (text ∷ texts) [] read = absurd read

-- no unit of the stream is refused
pub accepted-snapshot : (register : Register) → IsAnyOf register → AreAccepted register.stream
accepted-snapshot register is = accepted-read is.0.units register.stream is.1.read_as

-- its ids differ, and each was given
pub HasIds-snapshot : (register : Register) → IsAnyOf register → HasIds register
HasIds-snapshot register is = is.1.differ

-- it has no more units than a stream may have
pub bounded-snapshot : (register : Register) → IsAnyOf register → length register.stream ≤ most_units
bounded-snapshot register is = is.1.bounded
