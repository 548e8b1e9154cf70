-- A last step that is taken off again, or a part of it.
use Rattle.std.proofs.Common.{◌≡◌, ◌≢◌, ℕ, zero, suc, ◌+◌, ◌-◌, ◌<◌, ◌≤◌, List, [], ◌∷◌, ◌++◌, length, take, min, Some, None, refl, sym, ap, subst, ◌∙◌, length-append, arith}
use Rattle.std.proofs.lemmas.List.{append-nil, take_all, take_min}
use Rattle.sqlite_trees.specs.View.{IsClean, doubt}
use Rattle.sqlite_trees.specs.declared.store.Store.{Ghosts}
use Rattle.stream_edits.specs.declared.edits.Edit.{Edit}
use Rattle.edit_journal.specs.declared.journal.Journal.{Journal}
use Rattle.edit_journal.specs.declared.line.Line.{Line}
use Rattle.edit_journal.specs.declared.line.RowStep.{RowStep}
use Rattle.edit_journal.specs.Journals.{Lasts, Stands}
use Rattle.edit_journal.specs.Lines.{lines_of}
use Rattle.session_journal.specs.declared.steps.step.RecordedStep.{RecordedStep}
use Rattle.session_journal.specs.declared.steps.step.RecordedStep.TheVariants.{Edits, Load, Snapshot}
use Rattle.session_journal.specs.RecordRows.{given_after_edits, row_of_load, rows_of_step}
use Rattle.session_journal.specs.Records.{given_by_steps, lines_of_steps}
use Rattle.session_journal.proofs.LineLemmas.{given_then, steps_then}
use Rattle.session_journal.specs.declared.session_journal.SessionJournal.{SessionJournal}
use Rattle.session_journal.specs.SessionJournalKept.{with_left}
use Rattle.session_journal.specs.Standing.{HasSteps, Holds, IsEnd, LeavesNone, LeavesSome}
use Rattle.session_journal.proofs.CountLemmas.{first_grow, take-rows_of_edits}
use Rattle.session_journal.proofs.KeepLemmas.{WasOpen}

-- the lines of steps are those of the last one behind those of the others
last_lines : (front : List RecordedStep) (step : RecordedStep) → lines_of_steps 0 1 (front ++ step ∷ []) ≡ lines_of_steps 0 1 front ++ lines_of (length front + 1) (rows_of_step (given_by_steps 0 front) step)
last_lines front step = steps_then 0 1 front step (given_by_steps 0 front) (length front + 1) refl (omega arith)

module _ {S : Type 0} (g : Ghosts S) where
  -- what is said of a call that leaves so many of the last record's rows
  abbrev pub Shortens : Journal S → Journal S → ℕ → ℕ → Type 0
  Shortens old new rows left = IsClean (g.view new.store) → (lines : List Line) (entry : ℕ) (steps : List RowStep) → Stands (g.view old.store) old.rows (lines ++ lines_of entry steps) → rows ≡ length steps
      → Lasts g new.store new.rows (lines ++ lines_of entry (take left steps))

  shortens_lines : (old new : Journal S) (rows left : ℕ) (front : List RecordedStep) (step : RecordedStep) → WasOpen g old → doubt (g.view old.store).is_clean ≤ doubt (g.view new.store).is_clean → Shortens old new rows left
      → rows ≡ length (rows_of_step (given_by_steps 0 front) step) → HasSteps g old (front ++ step ∷ []) → IsClean (g.view new.store)
      → Lasts g new.store new.rows (lines_of_steps 0 1 front ++ lines_of (length front + 1) (take left (rows_of_step (given_by_steps 0 front) step)))
  shortens_lines old new rows left front step was_open mono shortens count has clean =
      let early : IsClean (g.view old.store) = omega (arith, clean, mono) in
      shortens clean (lines_of_steps 0 1 front) (length front + 1) (rows_of_step (given_by_steps 0 front) step)
      (subst (Stands (g.view old.store) old.rows) (last_lines front step) (has.lasts early (was_open early)).stands) count

  pub shorten_none : (old new : Journal S) (rows left : ℕ) (front : List RecordedStep) (step : RecordedStep) → WasOpen g old → doubt (g.view old.store).is_clean ≤ doubt (g.view new.store).is_clean
      → new.entries ≡ old.entries - (min 1 rows - min 1 left) → Shortens old new rows left → left ≡ 0 → 0 < rows → rows ≡ length (rows_of_step (given_by_steps 0 front) step)
      → HasSteps g old (front ++ step ∷ []) → HasSteps g new front
  shorten_none old new rows left front step was_open mono entries shortens none some count has = record {
    entries = omega (arith, entries, none, some, has.entries, length-append front (step ∷ []));
    lasts = λ clean _.
        let all = shortens_lines old new rows left front step was_open mono shortens count has clean in
        let is : lines_of_steps 0 1 front ++ lines_of (length front + 1) (take left (rows_of_step (given_by_steps 0 front) step)) ≡ lines_of_steps 0 1 front =
        ap (λ (n : ℕ). lines_of_steps 0 1 front ++ lines_of (length front + 1) (take n (rows_of_step (given_by_steps 0 front) step))) none ∙ append-nil (lines_of_steps 0 1 front) in
        subst (Lasts g new.store new.rows) is all;
  }

  pub shorten_some : (old new : Journal S) (rows left : ℕ) (front : List RecordedStep) (step short : RecordedStep) → WasOpen g old → doubt (g.view old.store).is_clean ≤ doubt (g.view new.store).is_clean
      → new.entries ≡ old.entries - (min 1 rows - min 1 left) → Shortens old new rows left → 0 < left → rows ≡ length (rows_of_step (given_by_steps 0 front) step)
      → rows_of_step (given_by_steps 0 front) short ≡ take left (rows_of_step (given_by_steps 0 front) step) → HasSteps g old (front ++ step ∷ []) → HasSteps g new (front ++ short ∷ [])
  shorten_some old new rows left front step short was_open mono entries shortens some count is has = record {
    entries = omega (arith, entries, some, has.entries, length-append front (step ∷ []), length-append front (short ∷ []));
    lasts = λ clean _.
        subst (Lasts g new.store new.rows) (ap (λ (r : List RowStep). lines_of_steps 0 1 front ++ lines_of (length front + 1) r) (sym is) ∙ sym (last_lines front short))
        (shortens_lines old new rows left front step was_open mono shortens count has clean);
  }

  -- where all rows are left, so is the step
  pub shorten_all : (journal : Journal S) (rows left : ℕ) (front : List RecordedStep) (step short : RecordedStep) → rows ≤ left → rows ≡ length (rows_of_step (given_by_steps 0 front) step)
      → rows_of_step (given_by_steps 0 front) short ≡ take left (rows_of_step (given_by_steps 0 front) step) → HasSteps g journal (front ++ step ∷ []) → HasSteps g journal (front ++ short ∷ [])
  shorten_all journal rows left front step short past count is has =
      let kept = rows_of_step (given_by_steps 0 front) step in
      let whole : rows_of_step (given_by_steps 0 front) short ≡ kept = is ∙ take_all left kept (omega (arith, past, count)) in
      let same : lines_of_steps 0 1 (front ++ step ∷ []) ≡ lines_of_steps 0 1 (front ++ short ∷ []) =
      last_lines front step ∙ ap (λ (r : List RowStep). lines_of_steps 0 1 front ++ lines_of (length front + 1) r) (sym whole) ∙ sym (last_lines front short) in
      record {
        entries = omega (arith, has.entries, length-append front (step ∷ []), length-append front (short ∷ []));
        lasts = λ clean is_open. subst (Lasts g journal.store journal.rows) same (has.lasts clean is_open);
      }

  -- what stands once a last step is shortened
  pub shortened : (old mid : SessionJournal S) (made left given : ℕ) (front : List RecordedStep) (step : RecordedStep) → (made ≡ 0 → left ≡ 0) → (made ≢ 0 → old.last.load ≡ None → left ≡ old.last.rows)
      → ((edits : List Edit) → made ≢ 0 → old.last.load ≡ Some edits → left ≡ min (made + 1) old.last.rows)
      → (left ≡ 0 → LeavesNone g old old.last.rows mid) → (0 < left → LeavesSome g old old.last.rows left mid)
      → (made ≡ 0 → given ≡ old.last.before) → (made ≢ 0 → old.last.load ≡ None → given ≡ old.given)
      → ((edits : List Edit) → made ≢ 0 → old.last.load ≡ Some edits → given_after_edits old.last.before (take made edits) ≤ old.given → given ≡ given_after_edits old.last.before (take made edits))
      → IsEnd g old front step → (given ≡ given_by_steps 0 (with_left front step made)) × Holds g mid (with_left front step made)
  shortened old mid zero left given front (Edits edits) none group load leaves_none leaves_some given_none given_group given_load end =
      let rows = end.rows ∙ ap (λ (n : ℕ). length (rows_of_step n (Edits edits))) end.before in
      (given_none refl ∙ end.before, leaves_none (none refl) front (Edits edits) end.some rows end.stands.holds)
  shortened old mid zero left given front (Load edits) none group load leaves_none leaves_some given_none given_group given_load end =
      let rows = end.rows ∙ ap (λ (n : ℕ). length (rows_of_step n (Load edits))) end.before in
      (given_none refl ∙ end.before, leaves_none (none refl) front (Load edits) end.some rows end.stands.holds)
  shortened old mid (suc made) left given front (Edits edits) none group load leaves_none leaves_some given_none given_group given_load end =
      let rows = end.rows ∙ ap (λ (n : ℕ). length (rows_of_step n (Edits edits))) end.before in
      let positive : suc made ≢ 0 = λ is. absurd (omega (arith, is)) in
      let all = group positive end.load in
      let whole : rows_of_step (given_by_steps 0 front) (Edits edits) ≡ take left (rows_of_step (given_by_steps 0 front) (Edits edits)) =
      sym (take_all left (rows_of_step (given_by_steps 0 front) (Edits edits)) (omega (arith, all, rows))) in
      (given_group positive end.load ∙ end.stands.given, leaves_some (omega (arith, all, end.some)) front (Edits edits) (Edits edits) rows whole end.stands.holds)
  shortened old mid zero left given front (Snapshot s) none group load leaves_none leaves_some given_none given_group given_load end =
      let rows = end.rows ∙ ap (λ (n : ℕ). length (rows_of_step n (Snapshot s))) end.before in
      (given_none refl ∙ end.before, leaves_none (none refl) front (Snapshot s) end.some rows end.stands.holds)
  shortened old mid (suc made) left given front (Snapshot s) none group load leaves_none leaves_some given_none given_group given_load end =
      let rows = end.rows ∙ ap (λ (n : ℕ). length (rows_of_step n (Snapshot s))) end.before in
      let positive : suc made ≢ 0 = λ is. absurd (omega (arith, is)) in
      let all = group positive end.load in
      let whole : rows_of_step (given_by_steps 0 front) (Snapshot s) ≡ take left (rows_of_step (given_by_steps 0 front) (Snapshot s)) =
      sym (take_all left (rows_of_step (given_by_steps 0 front) (Snapshot s)) (omega (arith, all, rows))) in
      (given_group positive end.load ∙ end.stands.given, leaves_some (omega (arith, all, end.some)) front (Snapshot s) (Snapshot s) rows whole end.stands.holds)
  shortened old mid (suc made) left given front (Load edits) none group load leaves_none leaves_some given_none given_group given_load end =
      let rows = end.rows ∙ ap (λ (n : ℕ). length (rows_of_step n (Load edits))) end.before in
      let positive : suc made ≢ 0 = λ is. absurd (omega (arith, is)) in
      let before = given_by_steps 0 front in
      let kept = rows_of_step before (Load edits) in
      let short = Load (take (suc made) edits) in
      let count = load edits positive end.load in
      let at : min (suc (suc made)) (length kept) ≡ left = omega (arith, count, rows) in
      let first : rows_of_step before short ≡ take (suc (suc made)) kept = ap (λ (more : List RowStep). row_of_load ∷ more) (sym (take-rows_of_edits (suc made) before edits)) in
      let is : rows_of_step before short ≡ take left kept =
      first ∙ sym (take_min (suc (suc made)) kept) ∙ ap (λ (n : ℕ). take n kept) at in
      let all : old.given ≡ given_after_edits old.last.before edits =
      end.stands.given ∙ given_then 0 front (Load edits) ∙ ap (λ (n : ℕ). given_after_edits n edits) (sym end.before) in
      let given_is = given_load edits positive end.load (omega (arith, all, first_grow (suc made) old.last.before edits)) in (
        given_is ∙ ap (λ (n : ℕ). given_after_edits n (take (suc made) edits)) end.before ∙ sym (given_then 0 front short),
        leaves_some (omega (arith, count, end.some)) front (Load edits) short rows is end.stands.holds,
      )
