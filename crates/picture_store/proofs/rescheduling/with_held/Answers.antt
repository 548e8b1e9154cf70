use Rattle.std.proofs.Common.{◌≡◌, refl, sym, ◌∙◌, subst, ℕ, Result, Some, Ok, Err}
use Rattle.std.specs.Prelude.{OnOk}
use Rattle.std.specs.Result.{result_ok}
use Rattle.std.specs.BinaryHeap.{heap_items}
use Rattle.picture_store.specs.Schedules.{WaitsFor}
use Rattle.picture_store.proofs.Queues.{adds_same}
use Rattle.picture_store.proofs.rescheduling.with_held.Goals as goal

ok_there : {A E : Type 0} (result : Result A E) (x : A) (P : Type 0) → OnOk result P → result_ok result ≡ Some x → P
ok_there (Ok y) x P holds is = holds
ok_there (Err e) x P holds is = absurd cc

pub returns : goal.returns
returns g c =
    let old = c.in_ok-target.field-0 in
    let freed = c.dependents_on-freed.result.now in
    let waits = rw c.deref.ensures.value at c.dependents_on-freed.ensures in
    rw c.in_ok-target.was (
      refl,
      refl,
      adds_same c.args.keys.now c.args.key_slots.now c.args.out.now c.args.numbers.now (λ at. (entry : ℕ) × WaitsFor freed at entry)
          (λ at. WaitsFor old.dependents.items at c.args.key) (heap_items old.queue) (heap_items c.enqueue_all_due.new.queue)
          (λ at those.
          let both = (waits (record { entry = those.0; at = at })).0 those.1 in
          subst (λ entry. WaitsFor old.dependents.items at entry) both.1 both.0)
          (λ at those. (c.args.key, (waits (record { entry = c.args.key; at = at })).1 (those, refl)))
          (ok_there c.enqueue_all_due.result c.in_ok-ok.field-0 _ c.enqueue_all_due.ensures
          (sym c.ok.ensures.value ∙ c.in_ok-ok.was)),
    )
