-- A step more in a journal.
use Rattle.std.proofs.Common.{◌≡◌, ℕ, ◌+◌, ◌<◌, ◌≤◌, List, [], ◌∷◌, ◌++◌, length, min, IsTrue, false, sym, ap, subst, ◌∙◌, inl, inr, length-append, arith}
use Rattle.std.proofs.lemmas.List.{append-nil}
use Rattle.sqlite_trees.specs.Tree.{Trees}
use Rattle.sqlite_trees.specs.View.{IsClean, doubt}
use Rattle.sqlite_trees.specs.declared.store.Store.{Ghosts}
use Rattle.edit_journal.specs.declared.journal.Journal.{Journal}
use Rattle.edit_journal.specs.declared.line.Line.{Line}
use Rattle.edit_journal.specs.declared.line.RowStep.{RowStep}
use Rattle.edit_journal.specs.Journals.{Lasts, Stands, Survives}
use Rattle.edit_journal.specs.Lines.{Keeps, lines_of}
use Rattle.edit_journal.proofs.RowLemmas.{rows_are}
use Rattle.session_journal.specs.declared.steps.step.RecordedStep.{RecordedStep}
use Rattle.session_journal.specs.declared.steps.step.RecordedStep.TheVariants.{Snapshot}
use Rattle.session_journal.specs.RecordRows.{rows_of_step}
use Rattle.session_journal.specs.Records.{given_by_steps, lines_of_steps}
use Rattle.session_journal.proofs.LineLemmas.{some_kept, steps_then}
use Rattle.stream_edits.specs.Snapshots.{SnapshotValue}
use Rattle.session_journal.specs.SessionJournalKept.{LeavesOr, LeavesOrOnly}
use Rattle.session_journal.specs.declared.session_journal.SessionJournal.{SessionJournal}
use Rattle.session_journal.specs.Standing.{AreRecordOf, CrashLeaves, HasSteps, Standing}

-- the lines of steps and of one more
pub more_lines : (steps : List RecordedStep) (step : RecordedStep) (rows : List RowStep) (given at : ℕ) → given ≡ given_by_steps 0 steps → rows ≡ rows_of_step given step → at ≡ length steps + 1
    → lines_of_steps 0 1 steps ++ lines_of at rows ≡ lines_of_steps 0 1 (steps ++ step ∷ [])
more_lines steps step rows given at is_given is_rows is_at =
    ap (λ (r : List RowStep). lines_of_steps 0 1 steps ++ lines_of at r) is_rows ∙ sym (steps_then 0 1 steps step given at is_given (omega (arith, is_at)))

-- the rows of a snapshot are the one record of it
pub record_of : (s : SnapshotValue) (rows : List RowStep) (given : ℕ) → rows ≡ rows_of_step 0 (Snapshot s) → given ≡ s.ids_given → AreRecordOf rows given (Snapshot s ∷ [])
record_of s rows given is_rows is_given =
    let some : 0 < length (rows_of_step 0 (Snapshot s)) = some_kept 0 (Snapshot s) tt in
    record {
      lines = append-nil (lines_of 1 (rows_of_step 0 (Snapshot s))) ∙ ap (lines_of 1) (sym is_rows);
      count = omega (arith, ap length is_rows, some);
      ids = is_given;
    }

module _ {S : Type 0} (g : Ghosts S) where
  -- the store was open when the journal was written
  abbrev pub WasOpen : Journal S → Type 0
  WasOpen journal = IsClean (g.view journal.store) → IsTrue (g.view journal.store).is_open

  pub keep_more : (old new : Journal S) (steps : List RecordedStep) (step : RecordedStep) (rows : List RowStep) (given : ℕ) → given ≡ given_by_steps 0 steps → rows ≡ rows_of_step given step → 0 < length rows → WasOpen old
      → doubt (g.view old.store).is_clean ≤ doubt (g.view new.store).is_clean → new.entries ≡ old.entries + min 1 (length rows)
      → (IsClean (g.view new.store) → (lines : List Line) → Stands (g.view old.store) old.rows lines → Lasts g new.store new.rows (lines ++ lines_of (old.entries + 1) rows))
      → HasSteps g old steps → HasSteps g new (steps ++ step ∷ [])
  keep_more old new steps step rows given is_given is_rows some was_open mono entries added has = record {
    entries = omega (arith, has.entries, entries, some, length-append steps (step ∷ []));
    lasts = λ clean _.
        let early : IsClean (g.view old.store) = omega (arith, clean, mono) in
        subst (Lasts g new.store new.rows) (more_lines steps step rows given (old.entries + 1) is_given is_rows (omega (arith, has.entries)))
        (added clean (lines_of_steps 0 1 steps) (has.lasts early (was_open early)).stands);
  }

  -- a call that fails leaves the steps
  pub keep_all : (old new : Journal S) (steps : List RecordedStep) → WasOpen old → doubt (g.view old.store).is_clean ≤ doubt (g.view new.store).is_clean → new.entries ≡ old.entries
      → (IsClean (g.view new.store) → (lines : List Line) → Stands (g.view old.store) old.rows lines → IsTrue (g.view new.store).is_open → Lasts g new.store new.rows lines)
      → HasSteps g old steps → HasSteps g new steps
  keep_all old new steps was_open mono entries stays has = record {
    entries = entries ∙ has.entries;
    lasts = λ clean is_open.
        let early : IsClean (g.view old.store) = omega (arith, clean, mono) in
        stays clean (lines_of_steps 0 1 steps) (has.lasts early (was_open early)).stands is_open;
  }

  -- a crash leaves what it could leave, or the steps and one more
  pub leaves_more : (old : SessionJournal S) (new : Journal S) (step : RecordedStep) (rows : List RowStep) → rows ≡ rows_of_step old.given step → old.is_shut ≡ false → WasOpen old.journal
      → Survives g old.journal.store new.store (λ (db : Trees). (lines : List Line) → Stands (g.view old.journal.store) old.journal.rows lines → Keeps db (lines ++ lines_of (old.journal.entries + 1) rows))
      → LeavesOr (CrashLeaves g old.journal) (Standing g old) step (CrashLeaves g new)
  leaves_more old new step rows is_rows open_still was_open survives steps found =
      let early : IsClean (g.view old.journal.store) = omega (arith, found.clean, survives.clean) in
      elim (survives.crash found.clean found.db found.recovers) [
        | inl before ↦ inl (record { clean = early; db = found.db; recovers = before; keeps = found.keeps })
        | inr commits ↦ inr (λ front stood. after early commits front stood)
      ]
    where
      after : IsClean (g.view old.journal.store) → ((lines : List Line) → Stands (g.view old.journal.store) old.journal.rows lines → Keeps found.db (lines ++ lines_of (old.journal.entries + 1) rows))
          → (front : List RecordedStep) → Standing g old front → lines_of_steps 0 1 steps ≡ lines_of_steps 0 1 (front ++ step ∷ [])
      after early commits front stood =
          let has = stood.holds open_still in
          let keeps : Keeps found.db (lines_of_steps 0 1 front ++ lines_of (old.journal.entries + 1) rows) = commits (lines_of_steps 0 1 front) (has.lasts early (was_open early)).stands in
          rows_are 1 (lines_of_steps 0 1 steps) (lines_of_steps 0 1 front ++ lines_of (old.journal.entries + 1) rows) (sym found.keeps ∙ keeps)
          ∙ more_lines front step rows old.given (old.journal.entries + 1) stood.given is_rows (omega (arith, has.entries))

  -- one record stands in the place of all steps
  pub keep_only : (old new : Journal S) (before steps : List RecordedStep) (rows : List RowStep) (given : ℕ) → AreRecordOf rows given steps → WasOpen old → doubt (g.view old.store).is_clean ≤ doubt (g.view new.store).is_clean
      → new.entries ≡ min 1 (length rows)
      → (IsClean (g.view new.store) → (lines : List Line) → Stands (g.view old.store) old.rows lines → Lasts g new.store new.rows (lines_of 1 rows))
      → HasSteps g old before → HasSteps g new steps
  keep_only old new before steps rows given are was_open mono entries replaced has = record {
    entries = entries ∙ sym are.count;
    lasts = λ clean _.
        let early : IsClean (g.view old.store) = omega (arith, clean, mono) in
        subst (Lasts g new.store new.rows) (sym are.lines) (replaced clean (lines_of_steps 0 1 before) (has.lasts early (was_open early)).stands);
  }

  -- a crash leaves what it could leave, or that record
  pub leaves_only : (old : SessionJournal S) (new : Journal S) (only : List RecordedStep) (rows : List RowStep) (given : ℕ) → AreRecordOf rows given only → old.is_shut ≡ false → WasOpen old.journal
      → Survives g old.journal.store new.store (λ (db : Trees). (lines : List Line) → Stands (g.view old.journal.store) old.journal.rows lines → Keeps db (lines_of 1 rows))
      → LeavesOrOnly (CrashLeaves g old.journal) (Standing g old) only (CrashLeaves g new)
  leaves_only old new only rows given are open_still was_open survives steps found =
      let early : IsClean (g.view old.journal.store) = omega (arith, found.clean, survives.clean) in
      elim (survives.crash found.clean found.db found.recovers) [
        | inl before ↦ inl (record { clean = early; db = found.db; recovers = before; keeps = found.keeps })
        | inr commits ↦ inr (λ front stood. after early commits front stood)
      ]
    where
      after : IsClean (g.view old.journal.store) → ((lines : List Line) → Stands (g.view old.journal.store) old.journal.rows lines → Keeps found.db (lines_of 1 rows))
          → (front : List RecordedStep) → Standing g old front → lines_of_steps 0 1 steps ≡ lines_of_steps 0 1 only
      after early commits front stood =
          let has = stood.holds open_still in
          let keeps : Keeps found.db (lines_of 1 rows) = commits (lines_of_steps 0 1 front) (has.lasts early (was_open early)).stands in
          rows_are 1 (lines_of_steps 0 1 steps) (lines_of 1 rows) (sym found.keeps ∙ keeps) ∙ sym are.lines
