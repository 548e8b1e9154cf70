use Rattle.stream_fold.specs.Refolding.{CatchesUp}
use Rattle.stream_fold.proofs.folded.Folded.catch_up.Given as goal

abbrev pub invariant-loop-at : goal.invariant-loop-at
invariant-loop-at l =
    CatchesUp l.self.stream l.self.stored.states l.from l.at l.initial.fold l.fold
