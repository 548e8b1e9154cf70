use Rattle.std.proofs.Common.{sym, subst, inl, inr, arith}
use Rattle.std.specs.BinaryHeap.{heap_items}
use Rattle.picture_store.specs.Due.{IsDueThere}
use Rattle.picture_store.proofs.Queues.{top_queued, top_earliest, left_ordered, left_queued, left_only, not_there}
use Rattle.picture_store.proofs.schedule.earliest_due.Goals as goal

pub returns-in-Some-due_key-clause-due : goal.returns-in-Some-due_key-clause-due
returns-in-Some-due_key-clause-due g c =
    let queue = heap_items c.loop-top.queue in
    let top = c.in-Some.top.now in
    let was = c.loop-top.invariant in
    record {
      queued = was.only top.0 (top_queued queue top c.in-Some.ensures.item.3.0 c.in-Some.ensures.item.3.1);
      number_is = (c.key_at.ensures c.in-Some-due_key.key).0 c.in-Some-due_key.ensures.0;
      due = c.in-Some-due_key.ensures.1;
      earliest = λ place is due.
          top_earliest queue top (c.in-Some.ensures.greatest was.ordered) place (was.stay place is due);
    }

pub loop-top-preserved : goal.loop-top-preserved
loop-top-preserved g c =
    let queue = heap_items c.loop-top.queue in
    let after = heap_items c.pop.new.self in
    let top = c.in-Some.top.now in
    let was = c.loop-top.invariant in
    record {
      ordered = left_ordered queue after c.pop.result _ c.pop.ensures.unchanged _ c.pop.ensures.heap_order was.ordered;
      stay = λ at is due.
          elim (left_queued queue after c.pop.result _ c.pop.ensures.unchanged c.pop.ensures.permutation top
          c.in-Some.ensures.item.3.1 c.pop.ensures.top at (was.stay at is due)) [
            | inl same ↦
                absurd (not_there c.args.keys.now c.args.key_slots.now c.args.out.now c.args.numbers.now top.0 c.key_at.result
                (λ n number_is. (c.key_at.ensures n).1 number_is) c.in_default-due_key.ensures
                (subst (IsDueThere c.args.keys.now c.args.key_slots.now c.args.out.now c.args.numbers.now) (sym same) due))
            | inr there ↦ there
          ];
      only = λ at is.
          was.only at (left_only queue after c.pop.result _ c.pop.ensures.unchanged c.pop.ensures.permutation at is);
    }

pub returns-clause-due : goal.returns-clause-due
returns-clause-due g c = λ at is due.
    let there = c.loop-top.invariant.stay at is due in
    let within = there.1 in
    let none = c.in_default.ensures.item.3 in
    omega (arith, within, none)
