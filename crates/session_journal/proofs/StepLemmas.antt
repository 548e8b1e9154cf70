-- Which step a record keeps.
use Rattle.std.proofs.Common.{◌≡◌, ℕ, List, [], ◌∷◌, ◌++◌, map, refl, ap, ◌∙◌, arith}
use Rattle.stream_edits.specs.declared.edits.Edit.{Edit}
use Rattle.stream_edits.specs.declared.edits.Edit.TheVariants.{Insert, Delete, Replace}
use Rattle.stream_edits.specs.declared.edits.InsertionPoint.TheVariants.{First, After}
use Rattle.edit_journal.specs.declared.line.Kind.{Kind}
use Rattle.edit_journal.specs.declared.line.Kind.TheVariants.{InsertFirst, Insert as InsertKind, Delete as DeleteKind, Replace as ReplaceKind, Unit as UnitKind, Given, Load as LoadKind}
use Rattle.edit_journal.specs.declared.line.RowStep.{RowStep}
use Rattle.session_journal.specs.declared.steps.step.RecordedStep.{RecordedStep}
use Rattle.session_journal.specs.declared.steps.step.RecordedStep.TheVariants.{Edits, Load, Snapshot}
use Rattle.session_journal.specs.RecordRows.{IsStep, row_of, row_of_given, rows_of_step, row_of_unit}
use Rattle.stream_edits.specs.Snapshots.{SnapshotValue}

-- the kinds with which the rows of edits, of a load and of a snapshot begin
abbrev pub class : Kind → ℕ
class InsertFirst = 0
class InsertKind = 0
class DeleteKind = 0
class ReplaceKind = 0
class UnitKind = 2
class Given = 2
class LoadKind = 1

abbrev pub class_of : RecordedStep → ℕ
class_of (Edits edits) = 0
class_of (Load edits) = 1
class_of (Snapshot s) = 2

class_edit : (given : ℕ) (edit : Edit) → class (row_of given edit).kind ≡ 0
class_edit given (Insert First text) = refl
class_edit given (Insert (After id) text) = refl
class_edit given (Delete id) = refl
class_edit given (Replace id text) = refl

class_units : (units : List (ℕ × List ℕ)) (ids_given : ℕ) (k : RowStep) (more : List RowStep) → k ∷ more ≡ map row_of_unit units ++ row_of_given ids_given ∷ [] → class k.kind ≡ 2
class_units [] ids_given k more same = let first : k ≡ row_of_given ids_given = cc in ap (λ (x : RowStep). class x.kind) first
class_units (unit ∷ units) ids_given k more same = let first : k ≡ row_of_unit unit = cc in ap (λ (x : RowStep). class x.kind) first

first_class : (given : ℕ) (step : RecordedStep) (k : RowStep) (more : List RowStep) → IsStep step → k ∷ more ≡ rows_of_step given step → class k.kind ≡ class_of step
first_class given (Edits []) k more is same = absurd (omega (arith, is))
first_class given (Edits (edit ∷ edits)) k more is same = let first : k ≡ row_of given edit = cc in ap (λ (x : RowStep). class x.kind) first ∙ class_edit given edit
first_class given (Load edits) k more is same = let first : k ≡ record { kind = LoadKind; id = 0; named = 0; text = [] } = cc in ap (λ (x : RowStep). class x.kind) first
first_class given (Snapshot s) k more is same = class_units s.units s.ids_given k more same

-- what holds of edits holds of a step whose rows begin with a kind of theirs
pub by_edits : (P : RecordedStep → Type 0) (given : ℕ) (step : RecordedStep) (k : RowStep) (more : List RowStep) → IsStep step → k ∷ more ≡ rows_of_step given step → class k.kind ≡ 0
    → ((edits : List Edit) → k ∷ more ≡ rows_of_step given (Edits edits) → P (Edits edits)) → P step
by_edits P given (Edits edits) k more is same kind by = by edits same
by_edits P given (Load edits) k more is same kind by = absurd (omega (arith, first_class given (Load edits) k more is same, kind))
by_edits P given (Snapshot s) k more is same kind by = absurd (omega (arith, first_class given (Snapshot s) k more is same, kind))

-- and of loads, of one whose rows begin with a load's
pub by_load : (P : RecordedStep → Type 0) (given : ℕ) (step : RecordedStep) (k : RowStep) (more : List RowStep) → IsStep step → k ∷ more ≡ rows_of_step given step → class k.kind ≡ 1
    → ((edits : List Edit) → k ∷ more ≡ rows_of_step given (Load edits) → P (Load edits)) → P step
by_load P given (Edits edits) k more is same kind by = absurd (omega (arith, first_class given (Edits edits) k more is same, kind))
by_load P given (Load edits) k more is same kind by = by edits same
by_load P given (Snapshot s) k more is same kind by = absurd (omega (arith, first_class given (Snapshot s) k more is same, kind))

-- and of snapshots, of one whose rows begin with those of a snapshot
pub by_snapshot : (P : RecordedStep → Type 0) (given : ℕ) (step : RecordedStep) (k : RowStep) (more : List RowStep) → IsStep step → k ∷ more ≡ rows_of_step given step → class k.kind ≡ 2
    → ((s : SnapshotValue) → k ∷ more ≡ rows_of_step given (Snapshot s) → P (Snapshot s)) → P step
by_snapshot P given (Edits edits) k more is same kind by = absurd (omega (arith, first_class given (Edits edits) k more is same, kind))
by_snapshot P given (Load edits) k more is same kind by = absurd (omega (arith, first_class given (Load edits) k more is same, kind))
by_snapshot P given (Snapshot s) k more is same kind by = by s same
