use Rattle.std.proofs.Common.{◌≡◌, ◌+◌, ◌<◌, ◌≤◌, ◌++◌, ◌∷◌, [], ℕ, List, Option, Some, None, length, take, drop, refl, sym, ap, subst, ◌∙◌, length-append, length-drop, arith, rules}
use Rattle.std.proofs.lemmas.List.{drop_all}
use Rattle.edit_journal.specs.declared.line.Line.{Line}
use Rattle.edit_journal.specs.Lines.{lines_of}
use Rattle.session_journal.specs.declared.steps.step.RecordedStep.{RecordedStep}
use Rattle.session_journal.specs.RecordRows.{IsReadFrom, IsStep}
use Rattle.session_journal.specs.Records.{AreOf, BeginOther, rows_in}
use Rattle.session_journal.proofs.KeptLemmas.{all_then}
use Rattle.session_journal.proofs.ReadLemmas.{given_read, leads_end, lines_read, read_leads, read_none, some_lines}
use Rattle.session_journal.proofs.steps.reading.read.Goals as goal

no_pair : (x : RecordedStep × ℕ) → ◌≡◌ {A = Option (RecordedStep × ℕ)} None (Some x) → ⊥
no_pair x is = cc

pub returns-in_default-clause-only : goal.returns-in_default-clause-only
returns-in_default-clause-only c all are is =
    let l = c.loop-from in
    let lines = c.args.lines.now in
    let count = c.lines_in-count.result in
    let left : c.lines_from-left.result.now ≡ drop l.from lines = c.lines_from-left.ensures in
    let record_is : c.first_lines-record.result.now ≡ take count (drop l.from lines) = c.first_lines-record.ensures ∙ ap (take count) left in
    let number : c.len.result ≡ length l.steps.items = search rules in
    let some : 0 < length (drop l.from lines) = omega (arith, length-drop l.from lines, c.loop-from-test.true) in
    absurd (read_none l.steps.items l.given l.from count lines all some
    (λ kept more whole other. c.lines_in-count.ensures.all kept more (left ∙ whole ∙ ap (λ (n : ℕ). lines_of (n + 1) kept ++ more) (sym number)) (subst (λ (n : ℕ). BeginOther (n + 1) more) (sym number) other))
    (λ s s_is s_kept. let h = c.in_ok-step.ensures.only s s_is (ap rows_in record_is ∙ s_kept) in no_pair _ (sym c.in_default.is ∙ h)) (l.invariant.only all are is))

pub loop-from-smaller : goal.loop-from-smaller
loop-from-smaller c =
    let l = c.loop-from in
    let lines = c.args.lines.now in
    let count = c.lines_in-count.result in
    let left : c.lines_from-left.result.now ≡ drop l.from lines = c.lines_from-left.ensures in
    let record_is : c.first_lines-record.result.now ≡ take count (drop l.from lines) = c.first_lines-record.ensures ∙ ap (take count) left in
    let fits : count ≤ length (drop l.from lines) = subst (λ (l : List Line). count ≤ length l) left c.lines_in-count.ensures.fits in
    let read0 : IsReadFrom l.given (rows_in c.first_lines-record.result.now) c.in-Some.step c.in-Some.after = search rules in
    let read : IsReadFrom l.given (rows_in (take count (drop l.from lines))) c.in-Some.step c.in-Some.after = subst (λ (r : List Line). IsReadFrom l.given (rows_in r) c.in-Some.step c.in-Some.after) record_is read0 in
    omega (arith, some_lines l.given c.in-Some.after count (drop l.from lines) c.in-Some.step fits read, c.loop-from-test.true)

pub loop-from-preserved : goal.loop-from-preserved
loop-from-preserved c =
    let l = c.loop-from in
    let lines = c.args.lines.now in
    let count = c.lines_in-count.result in
    let step = c.in-Some.step in
    let after = c.in-Some.after in
    let left : c.lines_from-left.result.now ≡ drop l.from lines = c.lines_from-left.ensures in
    let record_is : c.first_lines-record.result.now ≡ take count (drop l.from lines) = c.first_lines-record.ensures ∙ ap (take count) left in
    let number : c.len.result ≡ length l.steps.items = search rules in
    let some : 0 < length (drop l.from lines) = omega (arith, length-drop l.from lines, c.loop-from-test.true) in
    let fits : count ≤ length (drop l.from lines) = subst (λ (l : List Line). count ≤ length l) left c.lines_in-count.ensures.fits in
    let read0 : IsReadFrom l.given (rows_in c.first_lines-record.result.now) step after = search rules in
    let read : IsReadFrom l.given (rows_in (take count (drop l.from lines))) step after = subst (λ (r : List Line). IsReadFrom l.given (rows_in r) step after) record_is read0 in
    let are0 : AreOf (c.len.result + 1) (take count (drop l.from lines)) = subst (λ (t : List Line). AreOf (c.len.result + 1) (take count t)) left c.lines_in-count.ensures.are in
    let are : AreOf (length l.steps.items + 1) (take count (drop l.from lines)) = subst (λ (n : ℕ). AreOf (n + 1) (take count (drop l.from lines))) number are0 in
    let more = some_lines l.given after count (drop l.from lines) step fits read in
    record {
      within = omega (arith, fits, length-drop l.from lines, l.invariant.within);
      few = rw c.in_ok-push.ensures.items (omega (arith, length-append l.steps.items (step ∷ []), l.invariant.few, more));
      lines = rw c.in_ok-push.ensures.items (lines_read lines l.steps.items l.given l.from count after step are l.invariant.lines l.invariant.given read);
      given = rw c.in_ok-push.ensures.items (given_read l.steps.items l.given after _ step l.invariant.given read);
      are = rw c.in_ok-push.ensures.items (all_then IsStep l.steps.items step l.invariant.are read.is_step);
      only = λ all sound is. rw c.in_ok-push.ensures.items (read_leads l.steps.items l.given l.from count lines all some
          (λ kept more whole other. c.lines_in-count.ensures.all kept more (left ∙ whole ∙ ap (λ (n : ℕ). lines_of (n + 1) kept ++ more) (sym number)) (subst (λ (n : ℕ). BeginOther (n + 1) more) (sym number) other))
          after step (λ s s_is s_kept. let h = c.in_ok-step.ensures.only s s_is (ap rows_in record_is ∙ s_kept) in sym c.in-Some.is ∙ h) (l.invariant.only all sound is));
    }

pub returns-clause-only : goal.returns-clause-only
returns-clause-only c all are is =
    let l = c.loop-from in
    let none : drop l.from c.args.lines.now ≡ [] = drop_all l.from c.args.lines.now c.loop-from-test.false in
    (refl, sym (leads_end l.steps.items l.given (drop l.from c.args.lines.now) all none (l.invariant.only all are is)))
