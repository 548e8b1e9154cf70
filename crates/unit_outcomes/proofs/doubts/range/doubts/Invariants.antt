use Rattle.std.proofs.Common.{◌-◌}
use Rattle.unit_outcomes.specs.SeenUnits.{seen_units}
use Rattle.unit_outcomes.specs.InDoubt.{AreDoubts, IdsDiffer}
use Rattle.unit_outcomes.specs.Walks.{IsBefore}
use Rattle.unit_outcomes.proofs.doubts.range.doubts.Given as goal

abbrev pub invariant-loop-at : goal.invariant-loop-at
invariant-loop-at l = IdsDiffer (seen_units l.ids l.references l.outcomes)
    → IsBefore (seen_units l.ids l.references l.outcomes) l.at l.walk
    × AreDoubts (seen_units l.ids l.references l.outcomes) l.from (l.at - l.from) l.doubts.items
