-- What a record keeps of a step of a session.
use Rattle.std.specs.Prelude.{◌≡◌, ℕ, ◌+◌, ◌<◌, List, [], ◌∷◌, ◌++◌, length, map, ⊤}
use Rattle.stream_edits.specs.declared.edits.Edit.{Edit}
use Rattle.stream_edits.specs.declared.edits.Edit.TheVariants.{Insert, Delete, Replace}
use Rattle.stream_edits.specs.declared.edits.InsertionPoint.TheVariants.{First, After}
use Rattle.edit_journal.specs.declared.line.Kind.TheVariants.{InsertFirst, Insert as InsertKind, Delete as DeleteKind, Replace as ReplaceKind, Unit as UnitKind, Given as GivenKind, Load as LoadKind}
use Rattle.edit_journal.specs.declared.line.RowStep.{RowStep}
use Rattle.session_journal.specs.declared.steps.step.RecordedStep.{RecordedStep}
use Rattle.session_journal.specs.declared.steps.step.RecordedStep.TheVariants.{Edits, Load, Snapshot}

-- what is kept of an edit, where so many ids were given before it
abbrev pub row_of : ℕ → Edit → RowStep
row_of given (Insert First text) = record { kind = InsertFirst; id = given + 1; named = 0; text = text }
row_of given (Insert (After id) text) = record { kind = InsertKind; id = given + 1; named = id; text = text }
row_of given (Delete id) = record { kind = DeleteKind; id = id; named = 0; text = [] }
row_of given (Replace id text) = record { kind = ReplaceKind; id = id; named = 0; text = text }

-- how many ids were given, with that of the edit
abbrev pub given_after : ℕ → Edit → ℕ
given_after given (Insert place text) = given + 1
given_after given (Delete id) = given
given_after given (Replace id text) = given

-- what is kept of edits, one after the other
abbrev pub rows_of_edits : ℕ → List Edit → List RowStep
rows_of_edits given [] = []
rows_of_edits given (edit ∷ edits) = row_of given edit ∷ rows_of_edits (given_after given edit) edits

-- how many ids were given, with those of the edits
abbrev pub given_after_edits : ℕ → List Edit → ℕ
given_after_edits given [] = given
given_after_edits given (edit ∷ edits) = given_after_edits (given_after given edit) edits

-- what stands before the edits of a load
abbrev pub row_of_load : RowStep
row_of_load = record { kind = LoadKind; id = 0; named = 0; text = [] }

-- what is kept of a unit of a snapshot
abbrev pub row_of_unit : ℕ × List ℕ → RowStep
row_of_unit unit = record { kind = UnitKind; id = unit.0; named = 0; text = unit.1 }

-- what stands behind the units of a snapshot: how many ids were given
abbrev pub row_of_given : ℕ → RowStep
row_of_given ids_given = record { kind = GivenKind; id = ids_given; named = 0; text = [] }

-- what is kept of a step
abbrev pub rows_of_step : ℕ → RecordedStep → List RowStep
rows_of_step given (Edits edits) = rows_of_edits given edits
rows_of_step given (Load edits) = row_of_load ∷ rows_of_edits given edits
rows_of_step given (Snapshot snapshot) = map row_of_unit snapshot.units ++ row_of_given snapshot.ids_given ∷ []

-- how many ids were given after it
abbrev pub given_by_step : ℕ → RecordedStep → ℕ
given_by_step given (Edits edits) = given_after_edits given edits
given_by_step given (Load edits) = given_after_edits given edits
given_by_step given (Snapshot snapshot) = snapshot.ids_given

-- the step is an edit or several, a load, or a snapshot
abbrev pub IsStep : RecordedStep → Type 0
IsStep (Edits edits) = 0 < length edits
IsStep (Load edits) = ⊤
IsStep (Snapshot snapshot) = ⊤

-- the step is the one that keeps this, and so many ids were given after it
pub record IsReadFrom (given : ℕ) (kept : List RowStep) (step : RecordedStep) (after : ℕ) : Type 0 where
  pub kept_is : kept ≡ rows_of_step given step
  pub is_step : IsStep step
  pub after_is : after ≡ given_by_step given step
