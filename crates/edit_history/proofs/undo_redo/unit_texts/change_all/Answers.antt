use Rattle.edit_history.proofs.Rechanged.{all-changed, rest-changed}
use Rattle.edit_history.proofs.undo_redo.unit_texts.change_all.Goals as goal

pub loop-change-preserved : goal.loop-change-preserved
loop-change-preserved c =
    let loop = c.loop-change in
    record {
      left = λ to all.
          rest-changed loop.texts.items c.args.changes.now loop.change-index c.change-item.result c.change_one.new.texts.items to c.loop-change-test.true
          c.change-item.is c.in_ok-change_one.ensures (loop.invariant.left to all);
    }

pub returns : goal.returns
returns c = λ to all.
    let loop = c.loop-change in
    all-changed loop.texts.items c.args.changes.now loop.change-index to c.loop-change-test.false (loop.invariant.left to all)
