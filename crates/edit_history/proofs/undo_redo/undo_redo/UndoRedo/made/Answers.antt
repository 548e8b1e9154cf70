use Rattle.edit_history.proofs.UndoRedoLed.{IsTakenIn, changes-taken, kept-taken}
use Rattle.edit_history.proofs.undo_redo.undo_redo.UndoRedo.made.Goals as goal

pub returns-clause-follows : goal.returns-clause-follows
returns-clause-follows c = λ edit states before old id new follows way makes.
    let units = c.args.self.now.units in
    let made = c.make.new.self in
    let leads = follows old id new way.kept makes in
    let taken : IsTakenIn units c.args.prepared made = record {
      ids_are = c.make.ensures.ids;
      texts_are = c.make.ensures.texts;
      given_is = c.make.ensures.given;
    } in
    record {
      kept = kept-taken units c.args.prepared made new leads taken;
      history = way.history;
      changes =
          rw (c.push_reserved.ensures.items, c.make.ensures.change)
          (changes-taken units c.args.prepared made new before c.args.step.now.changes.items leads taken way.changes);
    }
