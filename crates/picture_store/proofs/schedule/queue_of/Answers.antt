use Rattle.std.proofs.Common.{sym, subst, Contains, inl, inr}
use Rattle.std.proofs.lemmas.List.{take_all}
use Rattle.std.proofs.lemmas.List.Elements.{Contains-get_or}
use Rattle.picture_store.proofs.Loops.{in_more}
use Rattle.picture_store.proofs.schedule.queue_of.Goals as goal

pub loop-at-preserved : goal.loop-at-preserved
loop-at-preserved g c =
    let needed = c.args.needed.now in
    let index = c.loop-at.at-index in
    let was = c.loop-at.invariant in
    let adds = c.in_ok-enqueue_due.ensures in
    record {
      ordered = adds.ordered was.ordered;
      due = λ at among due. elim (in_more needed index 0 at c.loop-at-test.true among) [
        | inl earlier ↦ adds.stay at (was.due at earlier due)
        | inr here ↦ adds.all at here due
      ];
      those = λ at is. elim (adds.only at is) [
        | inl there ↦ was.those at there
        | inr here ↦ subst (Contains needed) here (Contains-get_or needed index 0 c.loop-at-test.true)
      ];
    }

pub returns-clause-due : goal.returns-clause-due
returns-clause-due g c = λ at among due.
    c.loop-at.invariant.due at
    (subst (λ xs. Contains xs at) (sym (take_all c.loop-at.at-index c.args.needed.now c.loop-at-test.false)) among) due
