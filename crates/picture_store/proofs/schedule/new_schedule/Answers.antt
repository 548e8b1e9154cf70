use Rattle.std.proofs.Common.{refl}
use Rattle.picture_store.proofs.schedule.new_schedule.Goals as goal

pub returns : goal.returns
returns g c =
    let are = c.in_ok-needed.ensures.are in
    let dependents = rw c.deref.ensures.value at c.in_ok-dependents.ensures in
    let queue = rw c.deref-2.ensures.value at c.in_ok-queue.ensures in (
      refl,
      record {
        by_entry = c.in_ok-dependents.ensures.by_entry;
        ordered = c.in_ok-queue.ensures.ordered;
        due = λ at needed due. queue.due at ((are at).1 needed) due;
        queued = λ at is waits. (are at).0 (queue.those at is);
        listed = λ at entry needed refers not. dependents.listed at entry ((are at).1 needed) refers not;
        those = λ at entry is waits. (are at).0 (dependents.those at entry is);
      },
    )
