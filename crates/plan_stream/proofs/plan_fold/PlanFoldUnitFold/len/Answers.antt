use Rattle.std.proofs.Common.{◌∙◌}
use Rattle.plan_stream.proofs.FoldSteps.{count_is}
use Rattle.plan_stream.proofs.plan_fold.PlanFoldUnitFold.len.Goals as goal

pub returns-clause-done : goal.returns-clause-done
returns-clause-done c = λ first done is. c.len.ensures ∙ count_is done c.args.self.now is
