use Rattle.std.proofs.Common.{◌≡◌, ◌+◌, ◌++◌, ◌∷◌, [], ℕ, List, Option, Some, None, IfSome, drop, refl, sym, ap, subst, ◌∙◌, rules}
use Rattle.std.proofs.lemmas.List.{drop_all}
use Rattle.stream_edits.specs.declared.edits.Edit.{Edit}
use Rattle.session_journal.specs.RecordRows.{given_after, given_after_edits, row_of, rows_of_edits}
use Rattle.session_journal.specs.Records.{rows_in}
use Rattle.session_journal.proofs.KeptLemmas.{after_then, drop_item, kept_read}
use Rattle.session_journal.proofs.ReadLemmas.{Continues, continues_begin, continues_end, continues_more, continues_none}
use Rattle.session_journal.proofs.steps.reading_edits.read_edits.Goals as goal

pub loop-line-init : goal.loop-line-init
loop-line-init c = let none : [] ≡ c.new-edits.result.items = search rules in record {
  kept = subst (λ (e : List Edit). rows_in c.args.lines.now ≡ rows_of_edits c.args.given e ++ rows_in (drop 0 c.args.lines.now)) none refl;
  after = subst (λ (e : List Edit). c.args.given ≡ given_after_edits c.args.given e) none refl;
  only = λ all is. subst (λ (e : List Edit). Continues e c.args.given (rows_in (drop 0 c.args.lines.now)) all) none (continues_begin c.args.given (rows_in c.args.lines.now) all is);
}

pub loop-line-preserved : goal.loop-line-preserved
loop-line-preserved c =
    let l = c.loop-line in
    let lines = c.args.lines.now in
    let line = c.line-item.result in
    let edit = c.in-Some.edit in
    let left : rows_in (drop l.line-index lines) ≡ line.step ∷ rows_in (drop (l.line-index + 1) lines) = ap rows_in (drop_item lines l.line-index line c.loop-line-test.true c.line-item.is) in
    let kept : line.step ≡ row_of l.after edit = subst (λ (o : Option Edit). IfSome o (λ (e : Edit). line.step ≡ row_of l.after e)) c.in-Some.is c.in_ok-edit.ensures.kept in
    let given = c.given_after-after.ensures in
    record {
      kept = rw c.in_ok-push.ensures.items (kept_read c.args.given l.after l.edits.items edit line.step _ _ _ left kept l.invariant.after l.invariant.kept);
      after = rw c.in_ok-push.ensures.items (given edit kept ∙ ap (λ (n : ℕ). given_after n edit) l.invariant.after ∙ sym (after_then c.args.given l.edits.items edit));
      only = λ all is. rw c.in_ok-push.ensures.items (continues_more l.edits.items l.after _ line.step _ _ all edit left (λ e e_kept. sym c.in-Some.is ∙ c.in_ok-edit.ensures.only e e_kept) given (l.invariant.only all is));
    }

pub returns-clause-only : goal.returns-clause-only
returns-clause-only c edits is =
    let l = c.loop-line in
    let none : rows_in (drop l.line-index c.args.lines.now) ≡ [] = ap rows_in (drop_all l.line-index c.args.lines.now c.loop-line-test.false) in
    let all : edits ≡ l.edits.items = continues_end l.edits.items l.after _ edits none (l.invariant.only edits is) in
    let first : c.new.result ≡ edits = c.new.ensures ∙ sym all in
    let last : l.after ≡ given_after_edits c.args.given edits = l.invariant.after ∙ ap (given_after_edits c.args.given) (sym all) in
    rw (first, last) refl

pub returns-in_default-clause-only : goal.returns-in_default-clause-only
returns-in_default-clause-only c all is =
    let l = c.loop-line in
    let lines = c.args.lines.now in
    let line = c.line-item.result in
    let left : rows_in (drop l.line-index lines) ≡ line.step ∷ rows_in (drop (l.line-index + 1) lines) = ap rows_in (drop_item lines l.line-index line c.loop-line-test.true c.line-item.is) in
    absurd (continues_none l.edits.items l.after line.step _ _ all left (λ e e_kept. no_edit e (sym c.in_default.is ∙ c.in_ok-edit.ensures.only e e_kept)) (l.invariant.only all is))
  where
    no_edit : (e : Edit) → None ≡ Some e → ⊥
    no_edit e is = cc
