-- Each step but the last passes a unit.
use Rattle.plan_stream.proofs.Walks.{step-last, step-smaller}
use Rattle.plan_stream.proofs.walk.Walk.go_on.Goals as goal

pub returns-in_default-step-clause-on : goal.returns-in_default-step-clause-on
returns-in_default-step-clause-on c =
    step-last c.args.bytes.now c.args.is_over c.in-Some.at c.step.new.self _ c.in_default-step.not-On c.step.ensures.step

pub loop-self-preserved : goal.loop-self-preserved
loop-self-preserved c = (rw c.in-On.is at c.step.ensures.step).0

pub loop-self-smaller : goal.loop-self-smaller
loop-self-smaller c =
    let old = c.loop-self.self in
    step-smaller c.args.bytes.now old.places.items old.next c.step.new.self.next old.has_slice c.in-Some.at c.in-Some.is c.loop-self.invariant (rw c.in-On.is at c.step.ensures.step).1
