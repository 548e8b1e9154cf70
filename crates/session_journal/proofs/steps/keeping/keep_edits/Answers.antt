use Rattle.std.proofs.Common.{◌≡◌, ◌∷◌, ◌+◌, List, drop, sym, ap, ◌∙◌, arith}
use Rattle.stream_edits.specs.declared.edits.Edit.{Edit}
use Rattle.session_journal.specs.RecordRows.{given_after, given_after_edits}
use Rattle.session_journal.proofs.KeptLemmas.{drop_item, grows, keep_more, given_more}
use Rattle.session_journal.proofs.steps.keeping.keep_edits.Goals as goal

pub loop-edit-preserved : goal.loop-edit-preserved
loop-edit-preserved c =
    let l = c.loop-edit in
    let edits = c.args.edits.now in
    let edit = c.edit-item.result in
    let left : drop l.edit-index edits ≡ edit ∷ drop (l.edit-index + 1) edits = drop_item edits l.edit-index edit c.loop-edit-test.true c.edit-item.is in
    record {
      kept = rw c.in_ok-push.ensures.items (keep_more l.kept.items _ l.after c.in-Some.more edit _ _ _ left c.in-Some.ensures.some (c.in_ok-row_of.ensures l.after c.in-Some.ensures.some) l.invariant.kept);
      given = given_more l.after c.in-Some.more edit _ _ _ left c.in-Some.ensures.some l.invariant.given;
    }

pub returns-in_default-clause-none : goal.returns-in_default-clause-none
returns-in_default-clause-none c none =
    let l = c.loop-edit in
    let edits = c.args.edits.now in
    let edit = c.edit-item.result in
    let left : drop l.edit-index edits ≡ edit ∷ drop (l.edit-index + 1) edits = drop_item edits l.edit-index edit c.loop-edit-test.true c.edit-item.is in
    let whole : given_after_edits (given_after l.after edit) (drop (l.edit-index + 1) edits) ≡ given_after_edits c.args.given edits =
    ap (λ (e : List Edit). given_after_edits l.after e) (sym left) ∙ l.invariant.given in
    omega (arith, c.given_after.ensures.none c.in_default.is, grows (given_after l.after edit) (drop (l.edit-index + 1) edits), whole)
