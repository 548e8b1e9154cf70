use Rattle.std.proofs.Common.{arith}
use Rattle.stream_fold.proofs.Thinned.{thin_first, thin_last, thin_far, thin_near}
use Rattle.stream_fold.proofs.storing.thin.Goals as goal

pub returns-then-place-eq0 : goal.returns-then-place-eq0
returns-then-place-eq0 c = thin_first c.args.place c.args.stored.now.states (omega arith)

pub returns-in-None : goal.returns-in-None
returns-in-None c = thin_last c.args.place c.args.stored.now.states c.in-None.ensures

pub returns-then-past-before-le-SPACING : goal.returns-then-past-before-le-SPACING
returns-then-past-before-le-SPACING c =
    rw c.cut.ensures.after
    (thin_near c.args.place c.before-before.result.place c.in-Some.next.place c.args.stored.now.states _ _ c.before-before.ensures
    c.in-Some.ensures (omega arith) (omega (arith, c.if-past-before-le-SPACING.true)))

pub returns-else-past-before-le-SPACING : goal.returns-else-past-before-le-SPACING
returns-else-past-before-le-SPACING c =
    thin_far c.args.place c.before-before.result.place c.in-Some.next.place c.args.stored.now.states _ _ c.before-before.ensures
    c.in-Some.ensures (omega (arith, c.if-past-before-le-SPACING.false))
