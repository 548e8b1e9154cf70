use Rattle.std.proofs.Common.{◌∙◌, List, ap, arith, length, subst, sym}
use Rattle.stream_edits.specs.declared.edits.Edit.{Edit}
use Rattle.serve_calls.specs.Replaying.{MakesEach}
use Rattle.serve_calls.proofs.server.Server.replay_each.Goals as goal

pub loop-edit-preserved : goal.loop-edit-preserved
loop-edit-preserved g c = (
  λ new step rest. c.loop-edit.invariant.0 new step
      (subst (λ (edits : List Edit). MakesEach g.B.LendsSession.is_session c.loop-edit.self c.loop-edit.step edits new step)
      (sym c.in-Some.ensures.steps.0)
      (c.replay_in.new.self, c.replay_in.new.step, c.in_ok-replay_in.ensures.made, rest)),
  c.in_ok-replay_in.ensures.history ∙ c.loop-edit.invariant.1,
  omega (arith, c.in_ok-replay_in.ensures.more, c.in_ok-replay_in.ensures.capacity, c.loop-edit.invariant.2, ap length c.in-Some.ensures.steps.0),
)
