use Rattle.std.proofs.Common.{arith}
use Rattle.plan_stream.proofs.Gathers.{ends-folded, ends-none, ends-refused}
use Rattle.plan_stream.proofs.gathering.StreamGathering.finish.Goals as goal

pub returns-in-Some-clause-err : goal.returns-in-Some-clause-err
returns-in-Some-clause-err g c = λ first text comes.
    let self = c.args.self in
    ends-refused (g.F.UnitFold.folds first) text self.fold self.count self.refusal c.in-Some.refusal c.in-Some.is comes

pub returns-in-None-clause-err : goal.returns-in-None-clause-err
returns-in-None-clause-err g c = λ first text comes.
    let self = c.args.self in
    ends-none (g.F.UnitFold.folds first) text self.fold self.count self.refusal c.in-None.is (omega arith) comes

pub returns-in-None-2-clause-ok : goal.returns-in-None-2-clause-ok
returns-in-None-2-clause-ok g c = λ first text comes.
    let self = c.args.self in
    ends-folded (g.F.UnitFold.folds first) text self.fold self.count self.refusal c.in-None.is (omega arith) comes
