use Rattle.std.proofs.Common.{◌-◌}
use Rattle.unit_outcomes.specs.InDoubt.{AreDoubts}
use Rattle.unit_outcomes.specs.Walks.{IsBefore}
use Rattle.stream_session.specs.Doubting.{seen_with}
use Rattle.stream_session.proofs.doubting.doubts_of.Given as goal

abbrev pub invariant-loop-at : goal.invariant-loop-at
invariant-loop-at l = IsBefore (seen_with l.units l.outcomes) l.at l.walk
    × AreDoubts (seen_with l.units l.outcomes) l.from (l.at - l.from) l.doubts.items
