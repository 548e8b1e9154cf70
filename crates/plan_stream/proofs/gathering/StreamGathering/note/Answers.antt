use Rattle.plan_stream.proofs.Gathers.{comes-refused}
use Rattle.plan_stream.proofs.gathering.StreamGathering.note.Goals as goal

pub returns-clause-gathered : goal.returns-clause-gathered
returns-clause-gathered g c = λ first text left front rest some is refused comes.
    let old = c.args.self.now in
    rw (c.refusal_with-self.ensures, c.in_ok-count.ensures)
    (comes-refused (g.F.UnitFold.folds first) text left front rest is some c.args.refused c.requires refused old.refusal old.count old.fold comes)
