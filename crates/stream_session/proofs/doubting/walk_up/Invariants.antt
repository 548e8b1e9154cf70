use Rattle.unit_outcomes.specs.Walks.{IsBefore}
use Rattle.stream_session.specs.Doubting.{seen_with}
use Rattle.stream_session.proofs.doubting.walk_up.Given as goal

abbrev pub invariant-loop-at : goal.invariant-loop-at
invariant-loop-at l = IsBefore (seen_with l.units l.outcomes) l.at l.walk
