-- The lines of records.
use Rattle.std.proofs.Common.{◌≡◌, ◌≢◌, ℕ, ◌+◌, ◌<◌, List, [], ◌∷◌, ◌++◌, length, map, refl, sym, ap, subst, ◌∙◌, append_assoc, length-append, arith}
use Rattle.std.proofs.lemmas.List.{append-nil}
use Rattle.std.specs.Bool.{⊤}
use Rattle.std.specs.List.{AllByRecursion}
use Rattle.edit_journal.specs.declared.line.Line.{Line}
use Rattle.edit_journal.specs.declared.line.RowStep.{RowStep}
use Rattle.edit_journal.specs.Lines.{lines_from, lines_of}
use Rattle.session_journal.specs.declared.steps.step.RecordedStep.{RecordedStep}
use Rattle.session_journal.specs.declared.steps.step.RecordedStep.TheVariants.{Edits, Load, Snapshot}
use Rattle.session_journal.specs.RecordRows.{IsStep, given_by_step, row_of_given, rows_of_step, row_of_unit}
use Rattle.session_journal.specs.Records.{BeginOther, given_by_steps, rows_in, lines_of_steps}

-- the lines are the first of a record, from this place on
abbrev pub AreFrom : ℕ → ℕ → List Line → Type 0
AreFrom entry place lines = lines ≡ lines_from entry place (rows_in lines)

-- the lines are none, or begin with one that isn't the record's next
abbrev pub EndFrom : ℕ → ℕ → List Line → Type 0
EndFrom entry place [] = ⊤
EndFrom entry place (line ∷ lines) = (line.entry ≡ entry → line.place ≢ place)

pub length-lines : (entry place : ℕ) (kept : List RowStep) → length (lines_from entry place kept) ≡ length kept
length-lines entry place [] = refl
length-lines entry place (k ∷ kept) = omega (arith, length-lines entry (place + 1) kept)

pub kept-lines : (entry place : ℕ) (kept : List RowStep) → rows_in (lines_from entry place kept) ≡ kept
kept-lines entry place [] = refl
kept-lines entry place (k ∷ kept) = ap (λ more. k ∷ more) (kept-lines entry (place + 1) kept)

pub length-kept : (lines : List Line) → length (rows_in lines) ≡ length lines
length-kept [] = refl
length-kept (line ∷ lines) = omega (arith, length-kept lines)

-- one line more
pub from_more : (entry place : ℕ) (lines : List Line) (line : Line) (at : ℕ) → line.entry ≡ entry → line.place ≡ at → at ≡ place + length lines → AreFrom entry place lines → AreFrom entry place (lines ++ line ∷ [])
from_more entry place [] line at is_entry is_place is_at from =
    let here : line.place ≡ place = omega (arith, is_place, is_at) in rw (← is_entry, ← here) refl
from_more entry place (first ∷ lines) line at is_entry is_place is_at from =
    let head : first ≡ record { entry = entry; place = place; step = first.step } = cc in
    let tail : lines ≡ lines_from entry (place + 1) (rows_in lines) = cc in
    let more = from_more entry (place + 1) lines line at is_entry is_place (omega (arith, is_at)) tail in
    cc

-- the record ends where another line is
pub ends : (entry place : ℕ) (front tail : List Line) (kept : List RowStep) (more : List Line) → AreFrom entry place front → EndFrom entry (place + length front) tail → BeginOther entry more
    → front ++ tail ≡ lines_from entry place kept ++ more → length front ≡ length kept
ends entry place [] tail [] more from end other is = refl
ends entry place [] [] (k ∷ kept) more from end other is = absurd (cc)
ends entry place [] (line ∷ tail) (k ∷ kept) more from end other is =
    let head : line ≡ record { entry = entry; place = place; step = k } = cc in
    absurd (end (ap (λ (l : Line). l.entry) head) (ap (λ (l : Line). l.place) head ∙ omega arith))
ends entry place (first ∷ front) tail [] [] from end other is = absurd (cc)
ends entry place (first ∷ front) tail [] (line ∷ more) from end other is =
    let head : first ≡ record { entry = entry; place = place; step = first.step } = cc in
    let same : first ≡ line = cc in
    absurd (other (sym (ap (λ (l : Line). l.entry) same) ∙ ap (λ (l : Line). l.entry) head))
ends entry place (first ∷ front) tail (k ∷ kept) more from end other is =
    let here : lines_from entry (place + 1) (rows_in front) ≡ front = cc in
    let left : front ++ tail ≡ lines_from entry (place + 1) kept ++ more = cc in
    omega (arith, ends entry (place + 1) front tail kept more (sym here) (subst (λ (n : ℕ). EndFrom entry n tail) (omega arith) end) other left)

-- a step has a line
pub some_kept : (given : ℕ) (step : RecordedStep) → IsStep step → 0 < length (rows_of_step given step)
some_kept given (Edits []) is = absurd (omega (arith, is))
some_kept given (Edits (edit ∷ edits)) is = omega arith
some_kept given (Load edits) is = omega arith
some_kept given (Snapshot s) is = omega (arith, length-append (map row_of_unit s.units) (row_of_given s.ids_given ∷ []))

-- one step more
pub steps_then : (given entry : ℕ) (steps : List RecordedStep) (step : RecordedStep) (after at : ℕ) → after ≡ given_by_steps given steps → at ≡ entry + length steps
    → lines_of_steps given entry (steps ++ step ∷ []) ≡ lines_of_steps given entry steps ++ lines_of at (rows_of_step after step)
steps_then given entry [] step after at is_after is_at =
    let a : after ≡ given = is_after in
    let b : at ≡ entry = omega (arith, is_at) in
    rw (a, b) (append-nil (lines_of entry (rows_of_step given step)))
steps_then given entry (first ∷ steps) step after at is_after is_at =
    ap (λ (more : List Line). lines_of entry (rows_of_step given first) ++ more) (steps_then (given_by_step given first) (entry + 1) steps step after at is_after (omega (arith, is_at)))
    ∙ sym (append_assoc (lines_of entry (rows_of_step given first)) (lines_of_steps (given_by_step given first) (entry + 1) steps) (lines_of at (rows_of_step after step)))

pub given_then : (given : ℕ) (steps : List RecordedStep) (step : RecordedStep) → given_by_steps given (steps ++ step ∷ []) ≡ given_by_step (given_by_steps given steps) step
given_then given [] step = refl
given_then given (first ∷ steps) step = given_then (given_by_step given first) steps step

-- the lines of later steps are of later records
pub begin_other : (given entry : ℕ) (steps : List RecordedStep) → AllByRecursion IsStep steps → BeginOther entry (lines_of_steps given (entry + 1) steps)
begin_other given entry [] are = tt
begin_other given entry (step ∷ steps) are =
    later entry (rows_of_step given step) (lines_of_steps (given_by_step given step) (entry + 1 + 1) steps) (some_kept given step are.0)
  where
    later : (entry : ℕ) (kept : List RowStep) (more : List Line) → 0 < length kept → BeginOther entry (lines_of (entry + 1) kept ++ more)
    later entry [] more some = absurd (omega arith)
    later entry (k ∷ kept) more some = λ is. absurd (omega (arith, is))
