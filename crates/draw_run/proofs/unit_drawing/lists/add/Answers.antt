use Rattle.draw_run.proofs.Once.{named-again, named-new, not-false}
use Rattle.draw_run.proofs.unit_drawing.lists.add.Goals as goal

pub returns-then-is_among : goal.returns-then-is_among
returns-then-is_among c = λ before are.
    named-again before c.args.references.now.items c.args.reference are (rw c.deref.ensures.value at (c.is_among.ensures.0 c.if-is_among.true))

pub returns : goal.returns
returns c = λ before are.
    rw c.in_ok-push.ensures.items
    (named-new before c.args.references.now.items c.args.reference are
    (λ there. not-false c.is_among.result c.if-is_among.false (c.is_among.ensures.1 (rw c.deref.ensures.value there))))
