-- What an edit makes of a stream.
use Rattle.std.specs.Prelude.{◌≡◌, ℕ, ◌+◌, ◌<◌, List, [], ◌∷◌, length, Some, insert, remove, set}
use Rattle.access_unit.specs.Answers.{IsAccepted}
use Rattle.access_unit.specs.StreamUnits.{most_units}
use Rattle.stream_edits.specs.declared.edits.Edit.{Edit}
use Rattle.stream_edits.specs.declared.edits.Edit.TheVariants.{Insert, Delete, Replace}
use Rattle.stream_edits.specs.declared.edits.InsertionPoint.{InsertionPoint}
use Rattle.stream_edits.specs.Streams.{Stream, place_of, start_of}

-- how many ids are given at most
abbrev pub most_ids : ℕ
most_ids = 4294967295

-- a stream, and how many ids were given: 1, 2, 3 and so on
pub record Register : Type 0 where
  pub ids_given : ℕ
  pub stream : Stream

-- before the first edit
abbrev pub no_units : Register
no_units = record { ids_given = 0; stream = [] }

-- a unit more stands at its place, under the next id
pub record Inserts (old : Register) (place : InsertionPoint) (text : List ℕ) (id : ℕ) (new : Register) : Type 0 where
  pub at : ℕ
  pub unit : List (List ℕ)
  pub accepted : IsAccepted text unit
  pub stands : start_of old.stream place ≡ Some at
  pub fits : length old.stream < most_units
  pub is_left : old.ids_given < most_ids
  pub id_is : id ≡ old.ids_given + 1
  pub given_is : new.ids_given ≡ id
  pub stream_is : new.stream ≡ insert old.stream at (id, unit)

-- the unit of the id is gone
pub record Deletes (old : Register) (id : ℕ) (new : Register) : Type 0 where
  pub at : ℕ
  pub stands : place_of old.stream id ≡ Some at
  pub given_is : new.ids_given ≡ old.ids_given
  pub stream_is : new.stream ≡ remove old.stream at

-- another unit stands at the place of the one of the id, under the same id
pub record Replaces (old : Register) (id : ℕ) (text : List ℕ) (new : Register) : Type 0 where
  pub at : ℕ
  pub unit : List (List ℕ)
  pub accepted : IsAccepted text unit
  pub stands : place_of old.stream id ≡ Some at
  pub given_is : new.ids_given ≡ old.ids_given
  pub stream_is : new.stream ≡ set old.stream at (id, unit)

-- the edit is accepted: it is about the id, and leaves this
abbrev pub Makes : Register → Edit → ℕ → Register → Type 0
Makes old (Insert place text) id new = Inserts old place text id new
Makes old (Delete deleted) id new = (id ≡ deleted) × Deletes old deleted new
Makes old (Replace replaced text) id new = (id ≡ replaced) × Replaces old replaced text new

-- the edits, each accepted after those before it, lead from one to the other
abbrev pub Replays : Register → List Edit → Register → Type 0
Replays from [] to = from ≡ to
Replays from (edit ∷ edits) to = (id : ℕ) × (next : Register) × Makes from edit id next × Replays next edits to
