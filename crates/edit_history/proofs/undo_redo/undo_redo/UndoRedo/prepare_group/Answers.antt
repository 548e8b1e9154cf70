use Rattle.std.proofs.Common.{subst}
use Rattle.edit_history.specs.Texts.{Texts}
use Rattle.edit_history.specs.Following.{IsLed}
use Rattle.edit_history.proofs.UndoRedoLed.{kept-same}
use Rattle.edit_history.proofs.undo_redo.undo_redo.UndoRedo.prepare_group.Goals as goal

pub returns-in-Some-clause-follows : goal.returns-in-Some-clause-follows
returns-in-Some-clause-follows c = λ old ids new kept makes.
    let same = c.in_ok-units.ensures in
    let led = rw c.in-Some.is at c.in_ok-changes.ensures.led in
    subst (λ (texts : Texts). IsLed texts c.in-Some.changes.items new c.make_all.new.self) same.texts
    (led old ids new (kept-same c.args.self.now.units c.in_ok-units.units old same kept) makes)

pub returns-in-None-clause-none : goal.returns-in-None-clause-none
returns-in-None-clause-none c = λ _ old ids new kept makes.
    let same = c.in_ok-units.ensures in
    c.in_ok-changes.ensures.none c.in-None.is old ids new (kept-same c.args.self.now.units c.in_ok-units.units old same kept) makes
