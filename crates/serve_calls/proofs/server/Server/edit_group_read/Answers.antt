use Rattle.std.proofs.Common.{◌≡◌, List, None, refl, subst, sym, IfSome}
use Rattle.stream_edits.specs.declared.edits.Edit.{Edit}
use Rattle.edit_history.specs.declared.undo_redo.undo_redo.UndoRedo.{UndoRedo}
use Rattle.edit_history.specs.Following.{AreRefusedOf, FollowsAll}
use Rattle.edit_history.specs.States.{IsUndoRedo}
use Rattle.serve_calls.specs.Remembering.{AddsStep}
use Rattle.serve_calls.proofs.Remembered.{group-accepted}
use Rattle.serve_calls.proofs.server.Server.edit_group_read.Goals as goal

pub returns-in_ok-receipt-in-Ok-clause-makes : goal.returns-in_ok-receipt-in-Ok-clause-makes
returns-in_ok-receipt-in-Ok-clause-makes g c =
    let old = c.args.self.now in
    let between = record old { history = c.prepare_group.new.self } in
    let made = c.edit_together.new.self in
    let new = record made { history = c.take_in_group.new.history } in
    let makes = c.in_ok-receipt-in-Ok.ensures.makes in
    let follows = subst (λ (edits : List Edit). IfSome c.in-Ok.prepared (FollowsAll c.prepare_group.new.self.units edits)) c.edits.ensures.edits
    c.in-Ok.ensures.follows in
    let none = subst (λ (edits : List Edit). c.in-Ok.prepared ≡ None → AreRefusedOf c.prepare_group.new.self.units edits) c.edits.ensures.edits
    c.in-Ok.ensures.none in
    group-accepted g.B.LendsSession.is_session old between made new c.args.group c.in_ok-receipt-in-Ok.receipt
    (record { backend = refl; sums = refl; source = refl }) c.in-Ok.ensures.same makes
    (record { backend = refl; sums = refl; source = refl })
    (λ before ids after all states is.
    subst (λ (it : UndoRedo). AddsStep it new.history after states) makes.3
    (c.take_in_group.ensures c.args.group before ids after
    (subst (λ (it : UndoRedo). IfSome c.in-Ok.prepared (FollowsAll it.units c.args.group)) (sym makes.3) follows)
    (subst (λ (it : UndoRedo). c.in-Ok.prepared ≡ None → AreRefusedOf it.units c.args.group) (sym makes.3) none) all states
    (subst (λ (it : UndoRedo). IsUndoRedo it states before) (sym makes.3) is)))
