use Rattle.std.proofs.Common.{ℕ, length}
use Rattle.unit_outcomes.specs.InDoubt.{AreDoubts}
use Rattle.stream_session.specs.Doubting.{seen_in}
use Rattle.serve_calls.specs.Answering.{AreToldFrom}
use Rattle.serve_calls.proofs.questions.flags_of_all.Given as goal

-- what is told of the units so far
abbrev pub invariant-loop-at : goal.invariant-loop-at
invariant-loop-at l = (from : ℕ) → AreDoubts (seen_in l.session.register.stream) from (length l.ids) l.doubts
    → AreToldFrom l.session from l.at l.ids l.told.items
