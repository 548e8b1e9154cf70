use Rattle.std.proofs.Common.{◌≡◌, ◌∷◌, ℕ, List, Option, Some, IfOk, length, ap, subst, ◌∙◌, inl, inr, arith, rules}
use Rattle.edit_journal.specs.declared.line.Line.{Line}
use Rattle.session_journal.specs.declared.steps.step.RecordedStep.{RecordedStep}
use Rattle.session_journal.specs.RecordRows.{given_by_step, rows_of_step}
use Rattle.session_journal.specs.Records.{rows_in}
use Rattle.session_journal.proofs.LineLemmas.{length-kept, some_kept}
use Rattle.session_journal.proofs.StepLemmas.{by_edits, by_load, by_snapshot, class}
use Rattle.session_journal.proofs.steps.reading.read_step.Goals as goal

pub returns-in_default-clause-only : goal.returns-in_default-clause-only
returns-in_default-clause-only c step is kept =
    let none : length c.args.lines.now ≡ 0 = c.in_default.ensures.cases in
    let long : length (rows_in c.args.lines.now) ≡ length (rows_of_step c.args.given step) = ap length kept in
    absurd (omega (arith, none, long, length-kept c.args.lines.now, some_kept c.args.given step is))

pub returns-in-Load-clause-only : goal.returns-in-Load-clause-only
returns-in-Load-clause-only c step is kept =
    let whole : c.args.lines.now ≡ c.in-Some.first.now ∷ c.in-Some.more.now = search rules in
    by_load (λ (s : RecordedStep). IfOk c.read_load.result (λ (read : Option (RecordedStep × ℕ)). read ≡ Some (s, given_by_step c.args.given s))) c.args.given step c.in-Some.first.now.step (rows_in c.in-Some.more.now) is
    (subst (λ (l : List Line). rows_in l ≡ rows_of_step c.args.given step) whole kept) (ap class c.in-Load.is) c.read_load.ensures.only

pub returns-in-Unit-clause-read : goal.returns-in-Unit-clause-read
returns-in-Unit-clause-read c = c.read_stream.ensures.read c.args.given

pub returns-in-Unit-clause-only : goal.returns-in-Unit-clause-only
returns-in-Unit-clause-only c step is kept =
    let whole : c.args.lines.now ≡ c.in-Some.first.now ∷ c.in-Some.more.now = search rules in
    let same : class c.in-Some.first.now.step.kind ≡ 2 = elim c.in-Unit.is [ inl unit ↦ ap class unit | inr given ↦ ap class given ] in
    by_snapshot (λ (s : RecordedStep). IfOk c.read_stream.result (λ (read : Option (RecordedStep × ℕ)). read ≡ Some (s, given_by_step c.args.given s))) c.args.given step c.in-Some.first.now.step (rows_in c.in-Some.more.now) is
    (subst (λ (l : List Line). rows_in l ≡ rows_of_step c.args.given step) whole kept) same (λ s whole_kept. c.read_stream.ensures.only c.args.given s (ap rows_in whole ∙ whole_kept))

pub returns-in-InsertFirst-clause-only : goal.returns-in-InsertFirst-clause-only
returns-in-InsertFirst-clause-only c step is kept =
    let whole : c.args.lines.now ≡ c.in-Some.first.now ∷ c.in-Some.more.now = search rules in
    let same : class c.in-Some.first.now.step.kind ≡ 0 = elim c.in-InsertFirst.is [ inl first ↦ ap class first | inr others ↦ elim others [ inl insert ↦ ap class insert | inr other ↦ elim other [ inl delete ↦ ap class delete | inr replace ↦ ap class replace ] ] ] in
    by_edits (λ (s : RecordedStep). IfOk c.read_group.result (λ (read : Option (RecordedStep × ℕ)). read ≡ Some (s, given_by_step c.args.given s))) c.args.given step c.in-Some.first.now.step (rows_in c.in-Some.more.now) is
    (subst (λ (l : List Line). rows_in l ≡ rows_of_step c.args.given step) whole kept) same (λ edits whole_kept. c.read_group.ensures.only edits (ap rows_in whole ∙ whole_kept))
