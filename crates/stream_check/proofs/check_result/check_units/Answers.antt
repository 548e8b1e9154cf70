use Rattle.std.proofs.Common.{◌∙◌, ap, length}
use Rattle.stream_check.proofs.FoldSteps.{length-fold}
use Rattle.stream_check.proofs.check_result.check_units.Goals as goal

pub doubts_of_units-requires-clause-outcomes : goal.doubts_of_units-requires-clause-outcomes
doubts_of_units-requires-clause-outcomes c = ap length (c.deref.ensures.value ∙ c.in_ok-outcomes.ensures.outcomes) ∙ length-fold c.args.units.now
