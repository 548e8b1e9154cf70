use Rattle.std.proofs.Common.{List, Option, sym, subst}
use Rattle.std.specs.Prelude.{IfSome}
use Rattle.edit_history.specs.declared.changes.UnitChange.{UnitChange}
use Rattle.edit_history.specs.declared.undo_redo.prepared.PreparedEdit.{PreparedEdit}
use Rattle.edit_history.specs.Following.{Follows}
use Rattle.edit_history.proofs.UndoRedoLed.{IsPartlyLed, IsTakenIn, partly-none, partly-more, partly-refused, partly-whole}
use Rattle.edit_history.proofs.undo_redo.unit_texts.UnitTexts.make_all.Goals as goal

pub loop-edit-init : goal.loop-edit-init
loop-edit-init c = record {
  so_far = λ old ids new kept makes.
      subst (λ (changes : List UnitChange). IsPartlyLed c.args.self.now.texts.items changes c.args.edits.now 0 new c.args.self.now)
      (sym c.in_ok-changes.ensures.items) (partly-none old c.args.edits.now ids new c.args.self.now kept makes);
}

pub loop-edit-preserved : goal.loop-edit-preserved
loop-edit-preserved c =
    let loop = c.loop-edit in
    let taken : IsTakenIn c.prepare.new.self c.in-Some.prepared c.make.new.self = record {
      ids_are = c.make.ensures.ids;
      texts_are = c.make.ensures.texts;
      given_is = c.make.ensures.given;
    } in
    let between = c.prepare.new.self in
    let edit = c.edit-item.result in
    let follows : Follows between edit c.in-Some.prepared =
    subst (λ (found : Option PreparedEdit). IfSome found (λ (prepared : PreparedEdit). Follows between edit prepared)) c.in-Some.is
    c.in_ok-prepared.ensures.follows in
    record {
      so_far = λ old ids new kept makes.
          rw (c.in_ok-push.ensures.items, c.make.ensures.change)
          (partly-more c.args.self.now.texts.items loop.changes.items c.args.edits.now loop.edit-index c.edit-item.result new loop.self
          c.prepare.new.self c.in-Some.prepared c.make.new.self c.loop-edit-test.true c.edit-item.is c.prepare.ensures.same follows
          taken (loop.invariant.so_far old ids new kept makes));
    }

pub returns-in_default-clause-none : goal.returns-in_default-clause-none
returns-in_default-clause-none c = λ _ old ids new kept makes.
    let loop = c.loop-edit in
    partly-refused c.args.self.now.texts.items loop.changes.items c.args.edits.now loop.edit-index c.edit-item.result new loop.self c.prepare.new.self
    c.loop-edit-test.true c.edit-item.is c.prepare.ensures.same (c.in_ok-prepared.ensures.none c.in_default.is) (loop.invariant.so_far old ids new kept makes)

pub returns-clause-led : goal.returns-clause-led
returns-clause-led c = λ old ids new kept makes.
    let loop = c.loop-edit in
    partly-whole c.args.self.now.texts.items loop.changes.items c.args.edits.now loop.edit-index new loop.self c.loop-edit-test.false
    (loop.invariant.so_far old ids new kept makes)
