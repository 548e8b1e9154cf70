use Rattle.std.proofs.Common.{◌+◌, ◌-◌, sym, subst, arith}
use Rattle.unit_outcomes.specs.InDoubt.{AreDoubts}
use Rattle.unit_outcomes.proofs.Columns.{told_more}
use Rattle.stream_session.specs.Doubting.{seen_with}
use Rattle.stream_session.proofs.doubting.doubts_of.Goals as goal

pub loop-at-preserved : goal.loop-at-preserved
loop-at-preserved c =
    let units = seen_with c.args.units.now c.args.outcomes.now in
    let at = c.loop-at.at in
    let from = c.args.from in
    let was = c.loop-at.invariant in
    let passed = c.in_ok-next.ensures in (
      passed.1,
      subst (AreDoubts units from (at + 1 - from)) (sym c.in_ok-push.ensures.items)
          (told_more units from (at - from) (at + 1 - from) at c.loop-at.doubts.items c.in_ok-next.doubt
          (omega (arith, c.loop-at.auto.at)) (omega (arith, c.loop-at.auto.at)) was.1 passed.0),
    )
