use Rattle.std.proofs.Common.{◌≡◌, ◌+◌, ◌≤◌, List, Result, length, vec_len}
use Rattle.std.specs.Vec.{vec_capacity}
use Rattle.std.specs.Vec.Iter.{into_iter_items}
use Rattle.stream_edits.specs.declared.edits.Edit.{Edit}
use Rattle.session_journal.specs.declared.steps.step.RecordedStep.{RecordedStep}
use Rattle.serve_requests.specs.declared.failure.Failure.{Failure}
use Rattle.edit_history.specs.declared.undo_redo.prepared.OpenStep.{OpenStep}
use Rattle.serve_calls.specs.declared.loading.Inserted.{Inserted}
use Rattle.serve_calls.specs.declared.server.Server.{Server}
use Rattle.serve_calls.specs.Loading.{InsertsAll, none_inserted}
use Rattle.serve_calls.proofs.server.Server.insert_all.Given as goal

-- what becomes of the units that are left, behind those before them, becomes of all; the step has room for them; as many edits
-- of a load that is recorded are made as units were inserted
abbrev pub invariant-loop-unit : goal.invariant-loop-unit
invariant-loop-unit g l =
    ((result : Result Inserted Failure) (new : Server g.row.B.Denot g.row.S.Denot) (step : OpenStep)
    → InsertsAll g.B.LendsSession.is_session l.self l.step (into_iter_items l.unit-iterator) l.inserted result new step
    → InsertsAll g.B.LendsSession.is_session l.fn.self l.fn.step l.fn.units.items (none_inserted l.fn.from) result new step)
    × (l.self.history.history ≡ l.fn.self.history.history)
    × (vec_len l.step.changes + length (into_iter_items l.unit-iterator) ≤ vec_capacity l.step.changes)
    × ((steps : List RecordedStep) (edits : List Edit) → g.B.Backend.loads l.fn.self.backend steps edits 0
    → g.B.Backend.loads l.self.backend steps edits l.inserted.units)
