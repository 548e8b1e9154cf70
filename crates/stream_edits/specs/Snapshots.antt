-- Snapshots of streams.
use Rattle.std.specs.Prelude.{◌≡◌, ℕ, ◌≤◌, List, [], ◌∷◌, length, ⊤}
use Rattle.access_unit.specs.Answers.{IsAccepted}
use Rattle.access_unit.specs.StreamUnits.{most_units}
use Rattle.stream_edits.specs.Edits.{Register}
use Rattle.stream_edits.specs.Ids.{HasIds}
use Rattle.stream_edits.specs.Streams.{Stream}

-- the ids and texts of units, in decoding order, and how many ids were given
pub record SnapshotValue : Type 0 where
  pub units : List (ℕ × List ℕ)
  pub ids_given : ℕ

-- each unit has its id and is what its text is read as
abbrev pub AreReadAs : List (ℕ × List ℕ) → Stream → Type 0
AreReadAs [] [] = ⊤
AreReadAs (text ∷ texts) (unit ∷ units) = (unit.0 ≡ text.0) × IsAccepted text.1 unit.1 × AreReadAs texts units
AreReadAs [] (unit ∷ units) = ⊥
AreReadAs (text ∷ texts) [] = ⊥

-- the stream of the register has these units, and so many ids were given
pub record IsOf (snapshot : SnapshotValue) (register : Register) : Type 0 where
  pub read_as : AreReadAs snapshot.units register.stream
  pub given_is : register.ids_given ≡ snapshot.ids_given
  pub differ : HasIds register
  pub bounded : length register.stream ≤ most_units

-- it is a snapshot of the register
abbrev pub IsAnyOf : Register → Type 0
IsAnyOf register = (snapshot : SnapshotValue) × IsOf snapshot register
