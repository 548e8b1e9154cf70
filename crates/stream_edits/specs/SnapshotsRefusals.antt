-- Why a snapshot of a stream isn't read.
use Rattle.std.specs.Prelude.{ℕ, List, ⊤}
use Rattle.access_unit.specs.declared.refused.Refused.{Refused}
use Rattle.access_unit.specs.declared.refused.Refused.TheVariants as texts
use Rattle.access_unit.specs.Answers.{IsAccepted}
use Rattle.stream_edits.specs.Edits.{Register}
use Rattle.stream_edits.specs.Streams.{Stream}
use Rattle.stream_edits.specs.declared.snapshots.read_snapshot.SnapshotRefused.{SnapshotRefused}
use Rattle.stream_edits.specs.declared.snapshots.read_snapshot.SnapshotRefused.TheVariants as snapshots
use Rattle.stream_edits.specs.Snapshots.{SnapshotValue, AreReadAs, IsOf}

-- the snapshot is refused so: that memory ran out says nothing of it, and else it is one of no register
abbrev pub IsSnapshotRefused : SnapshotValue → SnapshotRefused → Type 0
IsSnapshotRefused snapshot snapshots.Memory = ⊤
IsSnapshotRefused snapshot snapshots.NoStream = (register : Register) → IsOf snapshot register → ⊥

-- the texts of units are refused so: where it isn't for memory, no units are what they are read as
abbrev pub AreTextsRefused : List (ℕ × List ℕ) → SnapshotRefused → Type 0
AreTextsRefused texts snapshots.Memory = ⊤
AreTextsRefused texts snapshots.NoStream = (units : Stream) → AreReadAs texts units → ⊥

-- a text is refused so: where it isn't for memory, it is that of no access unit
abbrev pub IsTextRefused : List ℕ → SnapshotRefused → Type 0
IsTextRefused text snapshots.Memory = ⊤
IsTextRefused text snapshots.NoStream = (unit : List (List ℕ)) → IsAccepted text unit → ⊥

-- the refusal of a snapshot with a text that is refused so
abbrev pub refusal_of_text : Refused → SnapshotRefused
refusal_of_text texts.Memory = snapshots.Memory
refusal_of_text refused = snapshots.NoStream
