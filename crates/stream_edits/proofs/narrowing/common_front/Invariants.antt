use Rattle.stream_edits.specs.Common.{IsFront}
use Rattle.stream_edits.proofs.narrowing.common_front.Given as goal

abbrev pub invariant-loop-count : goal.invariant-loop-count
invariant-loop-count l = IsFront l.old l.new l.count
