use Rattle.std.proofs.Common.{◌∙◌, ◌-◌, List, Ok, ap, subst}
use Rattle.stream_edits.specs.declared.edits.Edit.{Edit}
use Rattle.edit_history.specs.declared.undo_redo.undo_redo.UndoRedo.{UndoRedo}
use Rattle.serve_calls.specs.Editing.{MakesGroup}
use Rattle.serve_calls.proofs.Gone.{LeadsBack, gone, is-undone}
use Rattle.serve_calls.proofs.server.Server.take_back.Goals as goal

pub returns-clause-goes : goal.returns-clause-goes
returns-clause-goes g c =
    let old = c.args.self.now in
    let made = c.edit_together.new.self in
    let makes = subst (λ (edits : List Edit). MakesGroup g.B.LendsSession.is_session old edits (Ok c.in_ok-receipt.receipt) made) c.in_ok-group.ensures.ok.0
    c.in_ok-receipt.ensures.makes in
    gone g.B.LendsSession.is_session _ old made c.undone.new.self c.args.edits.items c.in_ok-receipt.receipt makes
    (c.undone.ensures.done ∙ ap (λ (it : UndoRedo). it.history.done - 1) makes.3)
    (c.undone.ensures.steps ∙ ap (λ (it : UndoRedo). it.history.steps.items) makes.3)
    (is-undone old.history c.undone.new.self c.args.edits.items c.args.units c.requires.some c.requires.undoes
    (subst (λ (it : UndoRedo). LeadsBack it c.undone.new.self c.args.units) makes.3 c.undone.ensures.follows))
