use Rattle.std.proofs.Common.{arith}
use Rattle.draw_run.proofs.FoldSteps.{count_is}
use Rattle.draw_run.proofs.drawn_fold.DrawnFoldUnitFold.len.Goals as goal

pub returns-clause-done : goal.returns-clause-done
returns-clause-done c = λ first done is.
    omega (arith, c.len.ensures, c.args.self.now.outcomes.ok.0, count_is first done c.args.self.now is)
