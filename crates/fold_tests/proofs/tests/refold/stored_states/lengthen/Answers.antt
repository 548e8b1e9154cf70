use Rattle.std.proofs.Common.{arith}
use Rattle.checkpoints.proofs.Members.{le_last}
use Rattle.fold_tests.proofs.tests.refold.stored_states.lengthen.Goals as goal

pub shift-requires-clause-apart : goal.shift-requires-clause-apart
shift-requires-clause-apart c = λ place there high.
    let le = le_last c.args.states.now.states c.last.result.place c.last.ensures.greatest place there in
    omega (arith, le, c.if-last-lt1000.true, c.from.ensures, c.ranges.by)
