use Rattle.std.proofs.Common.{◌≡◌, ◌+◌, ◌≤◌, length, vec_len}
use Rattle.std.specs.Vec.{vec_capacity}
use Rattle.std.specs.Vec.Iter.{into_iter_items}
use Rattle.edit_history.specs.declared.undo_redo.prepared.OpenStep.{OpenStep}
use Rattle.serve_calls.specs.declared.server.Server.{Server}
use Rattle.serve_calls.specs.Replaying.{MakesEach}
use Rattle.serve_calls.proofs.server.Server.replay_each.Given as goal

-- what becomes of the edits that are left, behind those before them, becomes of all; the step has room for them
abbrev pub invariant-loop-edit : goal.invariant-loop-edit
invariant-loop-edit g l =
    ((new : Server g.row.B.Denot g.row.S.Denot) (step : OpenStep)
    → MakesEach g.B.LendsSession.is_session l.self l.step (into_iter_items l.edit-iterator) new step
    → MakesEach g.B.LendsSession.is_session l.fn.self l.fn.step l.fn.edits.items new step)
    × (l.self.history.history ≡ l.fn.self.history.history)
    × (vec_len l.step.changes + length (into_iter_items l.edit-iterator) ≤ vec_capacity l.step.changes)
