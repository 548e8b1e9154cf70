use Rattle.std.proofs.Common.{refl, sym, subst}
use Rattle.std.specs.Prelude.{Err}
use Rattle.std.specs.List.{zip}
use Rattle.std.specs.BinaryHeap.{heap_items}
use Rattle.std.proofs.lemmas.Result.{err_from_is_err_and}
use Rattle.picture_store.specs.Stores.{StoreValue}
use Rattle.picture_store.specs.TakingFor.{AnswersTakeWithUnitFor}
use Rattle.picture_store.specs.Marks.{marked_for}
use Rattle.picture_store.proofs.Landed.{found_length}
use Rattle.picture_store.proofs.Scheduling.{scheduled_left}
use Rattle.picture_store.proofs.TakenFor.{none_needed_due, one_needed_out, is_needed, is_due, job_told, refusal_told}
use Rattle.picture_store.proofs.Viewed.{viewed}
use Rattle.picture_store.proofs.store.PictureStore.take_for.Goals as goal

pub schedule_for-requires-clause-columns : goal.schedule_for-requires-clause-columns
schedule_for-requires-clause-columns g c =
    let s = c.self.inside in
    rw (c.deref.ensures.value, c.deref-2.ensures.value, c.deref-3.ensures.value) (record {
      outcomes_many = sym c.self.invariant.kept.same;
      found_many =
          found_length s.keys s.ids.items s.outcomes.items s.numbers.items s.key_slots s.cache.pairs s.cache.capacity s.jobs_out.items s.jobs_given s.released.items (marked_for s.keys s.mark)
          c.self.invariant.kept;
      one = c.self.invariant.kept.right.one;
      stand = c.self.invariant.kept.stand;
    })

pub invariant_of-self-in_default : goal.invariant_of-self-in_default
invariant_of-self-in_default g c =
    let s = c.self.inside in
    let schedule = c.in_ok-schedule.schedule in
    let are =
    rw (c.deref.ensures.value, c.deref-2.ensures.value, c.deref-3.ensures.value, c.deref-4.ensures.value) at
    c.in_ok-schedule.ensures in
    let left = rw (c.deref-5.ensures.value, c.deref-6.ensures.value) at c.earliest_due-due.ensures in
    record {
      kept = c.self.invariant.kept;
      counted = c.self.invariant.counted;
      apart = c.self.invariant.apart;
      settled = c.self.invariant.settled;
      searched = c.self.invariant.searched;
      behind = c.self.invariant.behind;
      scheduled = rw are.0
          (scheduled_left s.keys (zip s.ids.items s.outcomes.items) s.numbers.items s.key_slots s.jobs_out.items c.args.at
          schedule.dependents.items (heap_items schedule.queue) (heap_items c.earliest_due-due.new.queue) left.ordered left.stay
          left.only are.1);
      marked = c.self.invariant.marked;
    }

pub invariant_of-self-2 : goal.invariant_of-self-2
invariant_of-self-2 g c =
    let s = c.self.inside in
    let schedule = c.in_ok-schedule.schedule in
    let are =
    rw (c.deref.ensures.value, c.deref-2.ensures.value, c.deref-3.ensures.value, c.deref-4.ensures.value) at
    c.in_ok-schedule.ensures in
    let left = rw (c.deref-5.ensures.value, c.deref-6.ensures.value) at c.earliest_due-due.ensures in
    record {
      kept = c.self.invariant.kept;
      counted = c.self.invariant.counted;
      apart = c.self.invariant.apart;
      settled = c.self.invariant.settled;
      searched = c.self.invariant.searched;
      behind = c.self.invariant.behind;
      scheduled = rw are.0
          (scheduled_left s.keys (zip s.ids.items s.outcomes.items) s.numbers.items s.key_slots s.jobs_out.items c.args.at
          schedule.dependents.items (heap_items schedule.queue) (heap_items c.earliest_due-due.new.queue) left.ordered left.stay
          left.only are.1);
      marked = c.self.invariant.marked;
    }

pub returns-in_default-clause-tells : goal.returns-in_default-clause-tells
returns-in_default-clause-tells g c =
    let s = c.self.inside in
    let are =
    rw (c.deref.ensures.value, c.deref-2.ensures.value, c.deref-3.ensures.value, c.deref-4.ensures.value) at
    c.in_ok-schedule.ensures in
    let schedule = c.in_ok-schedule.schedule in
    let none = rw (c.deref-5.ensures.value, c.deref-6.ensures.value) at c.in_default.ensures.due in
    rw (← c.self.view_is) (
      λ any. none_needed_due s.keys s.ids.items s.outcomes.items s.numbers.items s.key_slots s.cache.pairs s.cache.capacity s.jobs_out.items s.jobs_given s.released.items (marked_for s.keys s.mark)
          c.self.invariant.kept c.args.at schedule.dependents.items (heap_items schedule.queue) are.1 none any.0 any.1 any.2,
      refl,
    )

pub returns-in_default-clause-waits : goal.returns-in_default-clause-waits
returns-in_default-clause-waits g c =
    let s = c.self.inside in
    let are =
    rw (c.deref.ensures.value, c.deref-2.ensures.value, c.deref-3.ensures.value, c.deref-4.ensures.value) at
    c.in_ok-schedule.ensures in
    let schedule = c.in_ok-schedule.schedule in
    let none = rw (c.deref-5.ensures.value, c.deref-6.ensures.value) at c.in_default.ensures.due in
    rw (← c.self.view_is)
    (λ is pending. one_needed_out s.keys s.ids.items s.outcomes.items s.numbers.items s.key_slots s.cache.pairs s.cache.capacity s.jobs_out.items s.jobs_given s.released.items (marked_for s.keys s.mark)
    c.self.invariant.kept c.args.at schedule.dependents.items (heap_items schedule.queue) are.1 none pending)

pub give-requires-clause-due : goal.give-requires-clause-due
give-requires-clause-due g c =
    let s = c.self.inside in
    let are =
    rw (c.deref.ensures.value, c.deref-2.ensures.value, c.deref-3.ensures.value, c.deref-4.ensures.value) at
    c.in_ok-schedule.ensures in
    let schedule = c.in_ok-schedule.schedule in
    let is = rw (c.deref-5.ensures.value, c.deref-6.ensures.value) at c.in-Some.ensures.due in
    is_due s.keys s.ids.items s.outcomes.items s.numbers.items s.key_slots s.cache.pairs s.cache.capacity s.jobs_out.items s.jobs_given s.released.items (marked_for s.keys s.mark)
    c.self.invariant.kept c.args.at schedule.dependents.items (heap_items schedule.queue) are.1 c.in-Some.place c.in-Some.key is

pub returns-in_err-give-clause-tells : goal.returns-in_err-give-clause-tells
returns-in_err-give-clause-tells g c =
    let s = c.self.inside in
    let are =
    rw (c.deref.ensures.value, c.deref-2.ensures.value, c.deref-3.ensures.value, c.deref-4.ensures.value) at
    c.in_ok-schedule.ensures in
    let schedule = c.in_ok-schedule.schedule in
    let is = rw (c.deref-5.ensures.value, c.deref-6.ensures.value) at c.in-Some.ensures.due in
    let p = err_from_is_err_and c.from_residual-in_err-give.result c.from_residual-in_err-give.ensures.1 in
    rw (p.1, p.2)
    (subst (λ (old : StoreValue g.row.P.Denot). AnswersTakeWithUnitFor g.P.Decoded.IsOf old c.args.at (Err c.in_err-give.field-0.0) c.give.new.self) c.self.view_is
    (refusal_told g.P.Decoded.IsOf (viewed s.keys s.ids.items s.outcomes.items s.numbers.items s.key_slots s.cache.pairs s.cache.capacity s.jobs_out.items s.jobs_given s.released.items (marked_for s.keys s.mark))
    c.args.at c.in-Some.place c.in_err-give.field-0.0 c.give.new.self
    (is_needed s.keys s.ids.items s.outcomes.items s.numbers.items s.key_slots s.cache.pairs s.cache.capacity s.jobs_out.items s.jobs_given s.released.items (marked_for s.keys s.mark)
    c.self.invariant.kept c.args.at schedule.dependents.items (heap_items schedule.queue) are.1 c.in-Some.place c.in-Some.key is)
    (is_due s.keys s.ids.items s.outcomes.items s.numbers.items s.key_slots s.cache.pairs s.cache.capacity s.jobs_out.items s.jobs_given s.released.items (marked_for s.keys s.mark)
    c.self.invariant.kept c.args.at schedule.dependents.items (heap_items schedule.queue) are.1 c.in-Some.place c.in-Some.key is) c.in_err-give.ensures))

pub returns-clause-tells : goal.returns-clause-tells
returns-clause-tells g c =
    let s = c.self.inside in
    let are =
    rw (c.deref.ensures.value, c.deref-2.ensures.value, c.deref-3.ensures.value, c.deref-4.ensures.value) at
    c.in_ok-schedule.ensures in
    let schedule = c.in_ok-schedule.schedule in
    let is = rw (c.deref-5.ensures.value, c.deref-6.ensures.value) at c.in-Some.ensures.due in
    rw (← c.self.view_is)
    (job_told s.keys s.ids.items s.outcomes.items s.numbers.items s.key_slots s.cache.pairs s.cache.capacity s.jobs_out.items s.jobs_given s.released.items (marked_for s.keys s.mark)
    c.self.invariant.kept c.args.at schedule.dependents.items (heap_items schedule.queue) are.1 c.in-Some.place c.in-Some.key is c.in_ok-give.field-0
    c.give.new.self c.in_ok-give.ensures)
