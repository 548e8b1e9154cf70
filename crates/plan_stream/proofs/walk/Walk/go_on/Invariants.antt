use Rattle.annexb.proofs.Splits.{text_left}
use Rattle.plan_stream.specs.Walks.{IsWalked}
use Rattle.plan_stream.proofs.walk.Walk.go_on.Given as goal

abbrev pub invariant-loop-self : goal.invariant-loop-self
invariant-loop-self l = IsWalked l.bytes l.self

abbrev pub decreases-loop-self : goal.decreases-loop-self
decreases-loop-self l = text_left l.bytes l.self.next
