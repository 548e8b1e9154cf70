use Rattle.std.proofs.Common.{arith}
use Rattle.std.proofs.lemmas.Result.{err_from_is_err_and}
use Rattle.edit_history.proofs.Changed.{IsPartly-fits, IsPartly-more, IsPartly-whole}
use Rattle.edit_history.proofs.draft.TextDraft.make_all.Goals as goal

pub returns-in_err-make-clause-fit : goal.returns-in_err-make-clause-fit
returns-in_err-make-clause-fit c =
    let loop = c.loop-change in
    let p = err_from_is_err_and c.from_residual-in_err-make.result c.from_residual-in_err-make.ensures.1 in
    rw (p.1, p.2)
    (λ old before after is all unfit.
    c.in_err-make.ensures.fit unfit
    (IsPartly-fits old loop.edits.items c.args.changes.now loop.change-index c.change-item.result loop.self.ids.items loop.self.ids_given after
    c.loop-change-test.true c.change-item.is (loop.invariant.made old before after is all)))

pub loop-change-preserved : goal.loop-change-preserved
loop-change-preserved c =
    let loop = c.loop-change in
    record {
      made = λ old before after is all.
          rw (c.in_ok-push.ensures.items)
          (IsPartly-more old loop.edits.items c.args.changes.now loop.change-index c.change-item.result c.in_ok-make.field-0 loop.self.ids.items
          loop.self.ids_given c.make.new.self.ids.items c.make.new.self.ids_given after c.loop-change-test.true c.change-item.is
          c.in_ok-make.ensures.makes (loop.invariant.made old before after is all));
      few = omega (arith, c.in_ok-make.ensures.given, loop.invariant.few);
    }

pub returns-clause-ok : goal.returns-clause-ok
returns-clause-ok c = λ old before after is all.
    let loop = c.loop-change in
    IsPartly-whole old loop.edits.items c.args.changes.now loop.change-index loop.self.ids.items loop.self.ids_given after c.loop-change-test.false
    (loop.invariant.made old before after is all)
