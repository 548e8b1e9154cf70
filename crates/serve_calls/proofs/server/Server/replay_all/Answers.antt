use Rattle.std.proofs.Common.{List, subst, sym}
use Rattle.session_journal.specs.declared.steps.step.RecordedStep.{RecordedStep}
use Rattle.serve_calls.specs.Replaying.{ReplaysAll}
use Rattle.serve_calls.proofs.server.Server.replay_all.Goals as goal

pub loop-step-preserved : goal.loop-step-preserved
loop-step-preserved g c = λ new rest. c.loop-step.invariant new
    (subst (λ (steps : List RecordedStep). ReplaysAll g.B.LendsSession.is_session c.loop-step.self steps new) (sym c.in-Some.ensures.steps.0)
    (c.replay.new.self, c.in_ok-replay.ensures.made, rest))
