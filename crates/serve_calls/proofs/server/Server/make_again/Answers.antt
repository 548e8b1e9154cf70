use Rattle.std.proofs.Common.{◌∙◌, ◌+◌, List, Ok, ap, length, min, subst}
use Rattle.stream_edits.specs.declared.edits.Edit.{Edit}
use Rattle.edit_history.specs.declared.undo_redo.undo_redo.UndoRedo.{UndoRedo}
use Rattle.serve_calls.specs.Editing.{MakesGroup}
use Rattle.serve_calls.proofs.Gone.{LeadsOn, gone, is-redone}
use Rattle.serve_calls.proofs.server.Server.make_again.Goals as goal

pub returns-clause-goes : goal.returns-clause-goes
returns-clause-goes g c =
    let old = c.args.self.now in
    let made = c.edit_together.new.self in
    let makes = subst (λ (edits : List Edit). MakesGroup g.B.LendsSession.is_session old edits (Ok c.in_ok-receipt.receipt) made) c.in_ok-group.ensures.ok.0
    c.in_ok-receipt.ensures.makes in
    gone g.B.LendsSession.is_session _ old made c.redone.new.self c.args.edits.items c.in_ok-receipt.receipt makes
    (c.redone.ensures.done ∙ ap (λ (it : UndoRedo). min (it.history.done + 1) (length it.history.steps.items)) makes.3)
    (c.redone.ensures.steps ∙ ap (λ (it : UndoRedo). it.history.steps.items) makes.3)
    (is-redone old.history c.redone.new.self c.args.edits.items c.args.units c.requires.some c.requires.redoes
    (subst (λ (it : UndoRedo). LeadsOn it c.redone.new.self c.args.units) makes.3 c.redone.ensures.follows))
