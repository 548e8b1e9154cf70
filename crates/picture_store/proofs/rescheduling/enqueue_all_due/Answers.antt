use Rattle.std.proofs.Common.{◌≡◌, sym, ap, ◌∙◌, subst, ℕ, ◌+◌, take, List, Contains, inl, inr}
use Rattle.std.specs.BinaryHeap.{heap_items}
use Rattle.std.proofs.lemmas.List.{take_all}
use Rattle.picture_store.specs.declared.schedule.Dependent.{Dependent}
use Rattle.picture_store.specs.Schedules.{AddsDue, WaitsFor}
use Rattle.picture_store.proofs.Loops.{in_more, more_in}
use Rattle.picture_store.proofs.Queues.{adds_more}
use Rattle.picture_store.proofs.rescheduling.enqueue_all_due.Goals as goal

pub loop-dependent-preserved : goal.loop-dependent-preserved
loop-dependent-preserved g c =
    let freed = c.args.freed.now in
    let index = c.loop-dependent.dependent-index in
    let item = c.dependent-item.result in
    let within = c.loop-dependent-test.true in
    adds_more c.args.keys.now c.args.key_slots.now c.args.out.now c.args.numbers.now
    (λ at. (entry : ℕ) × WaitsFor (take index freed) at entry) (λ at. item.at ≡ at)
    (λ at. (entry : ℕ) × WaitsFor (take (index + 1) freed) at entry) (heap_items c.args.queue.now)
    (heap_items c.loop-dependent.queue) (heap_items c.enqueue_due.new.queue) c.loop-dependent.invariant
    c.in_ok-enqueue_due.ensures
    (λ at waits. (waits.0, (more_in freed index item (record { entry = waits.0; at = at }) within).0 waits.1))
    (λ at same. (
      item.entry,
      subst (λ n. WaitsFor (take (index + 1) freed) n item.entry) same
          (subst (λ (d : Dependent). Contains (take (index + 1) freed) d) (sym c.dependent-item.is)
          (more_in freed index item item within).1),
    ))
    (λ at waits. elim (in_more freed index item (record { entry = waits.0; at = at }) within waits.1) [
      | inl earlier ↦ inl (waits.0, earlier)
      | inr here ↦ inr (ap (λ (d : Dependent). d.at) (c.dependent-item.is ∙ here))
    ])

pub returns : goal.returns
returns g c =
    subst (λ (xs : List Dependent). AddsDue c.args.keys.now c.args.key_slots.now c.args.out.now c.args.numbers.now
    (λ at. (entry : ℕ) × WaitsFor xs at entry) (heap_items c.args.queue.now) (heap_items c.loop-dependent.queue))
    (take_all c.loop-dependent.dependent-index c.args.freed.now c.loop-dependent-test.false) c.loop-dependent.invariant
