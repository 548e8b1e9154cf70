use Rattle.std.proofs.Common.{◌∙◌}
use Rattle.picture_store.proofs.Flags.{listed_more, listed_none}
use Rattle.picture_store.proofs.mark.Mark.new.Goals as goal
use Rattle.picture_store.proofs.mark.Mark.new.Goals.{in-Some+in_ok-add, in_default}

pub loop-number-preserved : goal.loop-number-preserved
loop-number-preserved c =
    elim c.match-number.branch [
      | in-Some+in_ok-add w ↦
          w.mark-is ∙ (w.in_ok-add.ensures
          ∙ listed_more c.args.numbers.now c.loop-number.number-index c.loop-number.mark c.number-item.result
          c.loop-number-test.true c.number-item.is c.loop-number.invariant w.in-Some.key w.in-Some.is)
      | in_default w ↦
          w.mark-is
          ∙ listed_none c.args.numbers.now c.loop-number.number-index c.loop-number.mark c.number-item.result
          c.loop-number-test.true c.number-item.is c.loop-number.invariant w.in_default.is
    ]
