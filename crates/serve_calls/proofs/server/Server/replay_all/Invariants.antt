use Rattle.std.specs.Vec.Iter.{into_iter_items}
use Rattle.serve_calls.specs.declared.server.Server.{Server}
use Rattle.serve_calls.specs.Replaying.{ReplaysAll}
use Rattle.serve_calls.proofs.server.Server.replay_all.Given as goal

-- what becomes of the steps that are left, behind those before them, becomes of all
abbrev pub invariant-loop-step : goal.invariant-loop-step
invariant-loop-step g l =
    (new : Server g.row.B.Denot g.row.S.Denot) → ReplaysAll g.B.LendsSession.is_session l.self (into_iter_items l.step-iterator) new
    → ReplaysAll g.B.LendsSession.is_session l.fn.self l.fn.steps.items new
