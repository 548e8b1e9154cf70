use Rattle.std.proofs.Common.{sym, subst}
use Rattle.request_core.specs.Agreement.{Stream}
use Rattle.stream_fold.specs.Refolding.{GoesOn}
use Rattle.stream_fold.proofs.Fronts.{one_at}
use Rattle.stream_fold.proofs.folded.Folded.go_on_at.Goals as goal

pub returns-clause-on : goal.returns-clause-on
returns-clause-on c =
    let within = rw (← c.self.view_is) at c.requires.inside in
    rw (← c.self.view_is)
    (subst (λ (units : Stream). GoesOn c.args.fold.now units c.go_on.new.self)
    (sym (one_at c.self.inside.units.items c.args.at c.index-unit.result.now within c.index-unit.ensures))
    (rw c.deref.ensures at c.in_ok-go_on.ensures))
