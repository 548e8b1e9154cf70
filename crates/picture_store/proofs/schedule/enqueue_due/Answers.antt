use Rattle.std.proofs.Common.{sym, ◌∙◌, subst}
use Rattle.picture_store.proofs.Queues.{adds_none, adds_one, not_there}
use Rattle.picture_store.proofs.Referring.{none_there}
use Rattle.picture_store.specs.Due.{IsDueThere, IsNotDue}
use Rattle.picture_store.proofs.schedule.enqueue_due.Goals as goal

pub returns-in_ok-push : goal.returns-in_ok-push
returns-in_ok-push g c =
    adds_one c.args.keys.now c.args.key_slots.now c.args.out.now c.args.numbers.now c.args.at _ _ c.in_ok-push.ensures.heap_order
    c.in_ok-push.ensures.permutation

pub returns-else-is_some : goal.returns-else-is_some
returns-else-is_some g c =
    let keys = c.args.keys.now in
    let key_slots = c.args.key_slots.now in
    let out = c.args.out.now in
    let none = none_there c.due_key.result (sym c.is_some.ensures ∙ c.if-is_some.false) in
    let not : IsNotDue keys key_slots out c.key_at.result = rw none at c.due_key.ensures in
    adds_none keys key_slots out c.args.numbers.now _ _
    (λ place same due. not_there keys key_slots out c.args.numbers.now c.args.at c.key_at.result (λ n is. (c.key_at.ensures n).1 is) not
    (subst (IsDueThere keys key_slots out c.args.numbers.now) (sym same) due))
