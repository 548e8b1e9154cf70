use Rattle.std.proofs.Common.{◌≡◌, ◌<◌, ◌≤◌, ◌-◌, ap, ℕ, List, Option, ◌++◌, ◌∙◌, map, take, drop, length, refl, sym, subst, append_assoc, arith}
use Rattle.std.specs.List.{zip}
use Rattle.std.specs.Map.{values_of}
use Rattle.std.proofs.lemmas.List.Sums.{sum_by-take-le, sum_by-take-drop}
use Rattle.held_pictures.specs.Accounts.{pictures_of}
use Rattle.held_pictures.specs.Counting.{once_at, times, times_in}
use Rattle.held_pictures.specs.KeySlots.{AreSame}
use Rattle.held_pictures.proofs.Taking.{times_at_most}
use Rattle.picture_keys.specs.Known.{keys_of}
use Rattle.picture_keys.specs.Numbered.{AllStandFor}
use Rattle.picture_store.specs.KeySlots.{KeySlotsValue, ArePlaced}
use Rattle.picture_store.specs.Stored.{jobs_for}
use Rattle.picture_store.specs.Looked.{AreNotDue, IsBehind, lowered}
use Rattle.picture_store.specs.Settled.{AreSettled}
use Rattle.picture_store.specs.declared.job_out.JobOut.{JobOut}
use Rattle.std.specs.Prelude.{All, IsPermutation}
use Rattle.picture_store.specs.Recounts.{IsRecounted}
use Rattle.picture_store.specs.Stores.{StoreValue}
use Rattle.picture_store.specs.Changes.{RefitsLosing}
use Rattle.picture_store.specs.Splices.{IsSplice, ids_with, outcomes_with}
use Rattle.picture_store.specs.Marks.{marked_for}
use Rattle.picture_store.proofs.Viewed.{Marked, viewed, on_any_err}
use Rattle.picture_store.proofs.Landed.{found_length}
use Rattle.picture_store.proofs.Marked.{marks_stay}
use Rattle.picture_store.proofs.Stays.{kept_stays}
use Rattle.picture_store.proofs.Lifted.{least_by_keys}
use Rattle.picture_store.proofs.Ranged.{later_long, same_with, stand_with}
use Rattle.picture_store.proofs.Refitted.{kept_after, refitted}
use Rattle.picture_store.proofs.Looked.{looked_stays}
use Rattle.picture_store.proofs.Lowered.{behind_lowered, jobs_lowered, kept_lowered, looked_front, looked_lowered, settled_lowered}
use Rattle.picture_store.proofs.Settled.{settled_front}
use Rattle.picture_store.proofs.Same.{stored_still, viewed_still}
use Rattle.picture_store.proofs.Using.{countable, recounted_same}
use Rattle.picture_store.proofs.store.PictureStore.refit.Goals as goal

same_self : {P : Type 0} (key_slots : KeySlotsValue P) → AreSame key_slots key_slots
same_self key_slots = record { slots = λ number. refl; held = refl; pictures = refl }

pub keys_from-requires-clause-splice : goal.keys_from-requires-clause-splice
keys_from-requires-clause-splice g c =
    let splice = rw (← c.sweep.ensures, ← c.self.view_is) at c.requires.splice in
    rw (c.deref.ensures.value, c.reserve.ensures.ids) splice

pub keys_from-requires-clause-stand : goal.keys_from-requires-clause-stand
keys_from-requires-clause-stand g c =
    rw (c.deref.ensures.value, c.deref-2.ensures.value, c.deref-3.ensures.value, c.reserve.ensures.ids, c.reserve.ensures.outcomes)
    c.self.invariant.kept.stand

pub keys_from-requires-clause-told : goal.keys_from-requires-clause-told
keys_from-requires-clause-told g c =
    let told = rw (← c.sweep.ensures, ← c.self.view_is) at c.requires.told in
    rw (c.deref.ensures.value, c.deref-2.ensures.value, c.reserve.ensures.ids, c.reserve.ensures.outcomes) told

pub invariant_of-self-in_err-past : goal.invariant_of-self-in_err-past
invariant_of-self-in_err-past g c =
    let s = c.self.inside in
    rw (c.reserve.ensures.ids, c.reserve.ensures.outcomes)
    (stored_still s.keys c.keys_from.new.keys s.ids.items s.outcomes.items s.numbers.items s.key_slots s.key_slots s.cache.pairs s.jobs_out.items
    s.units_settled s.units_not_due s.schedule s.mark c.self.invariant (λ n k stored is. c.keys_from.ensures.stay n k is)
    (λ n k marked is. c.keys_from.ensures.stay n k is)
    (c.keys_from.ensures.one c.self.invariant.kept.right.one) (same_self s.key_slots))

pub returns-in_err-past-clause-err : goal.returns-in_err-past-clause-err
returns-in_err-past-clause-err g c =
    let s = c.self.inside in
    on_any_err c.from_residual-in_err-past.result
    (rw (← c.sweep.ensures, ← c.self.view_is, c.reserve.ensures.ids, c.reserve.ensures.outcomes)
    (viewed_still s.keys c.keys_from.new.keys s.ids.items s.outcomes.items s.numbers.items s.key_slots s.key_slots s.cache.pairs s.jobs_out.items
    s.units_settled s.units_not_due s.schedule s.mark c.self.invariant (λ n k stored is. c.keys_from.ensures.stay n k is)
    (λ n k marked is. c.keys_from.ensures.stay n k is) (c.keys_from.ensures.one c.self.invariant.kept.right.one) (same_self s.key_slots)
    s.cache.capacity s.jobs_given s.released.items))

pub make_ready-requires-clause-ordered : goal.make_ready-requires-clause-ordered
make_ready-requires-clause-ordered g c =
    let splice : IsSplice c.args.splice c.self.inside.ids.items = rw (← c.sweep.ensures, ← c.self.view_is) at c.requires.splice in
    omega (arith, splice.ordered, c.in_ok-past.ensures.behind.0)

pub make_ready-requires-clause-inside : goal.make_ready-requires-clause-inside
make_ready-requires-clause-inside g c =
    let s = c.self.inside in
    let behind = rw (c.deref.ensures.value, c.reserve.ensures.ids) at c.in_ok-past.ensures.behind in
    omega (
      arith,
      behind.1,
      found_length s.keys s.ids.items s.outcomes.items s.numbers.items s.key_slots s.cache.pairs s.cache.capacity s.jobs_out.items s.jobs_given s.released.items (marked_for s.keys s.mark)
          c.self.invariant.kept,
    )

pub invariant_of-self-in_err-leaving : goal.invariant_of-self-in_err-leaving
invariant_of-self-in_err-leaving g c =
    let s = c.self.inside in
    rw (c.reserve.ensures.ids, c.reserve.ensures.outcomes, c.make_ready.ensures.numbers)
    (stored_still s.keys c.keys_from.new.keys s.ids.items s.outcomes.items s.numbers.items s.key_slots c.make_ready.new.key_slots
    s.cache.pairs s.jobs_out.items s.units_settled s.units_not_due s.schedule s.mark c.self.invariant (λ n k stored is. c.keys_from.ensures.stay n k is)
    (λ n k marked is. c.keys_from.ensures.stay n k is)
    (c.keys_from.ensures.one c.self.invariant.kept.right.one) c.make_ready.ensures.same)

pub returns-in_err-leaving-clause-err : goal.returns-in_err-leaving-clause-err
returns-in_err-leaving-clause-err g c =
    let s = c.self.inside in
    on_any_err c.from_residual-in_err-leaving.result
    (rw (← c.sweep.ensures, ← c.self.view_is, c.reserve.ensures.ids, c.reserve.ensures.outcomes, c.make_ready.ensures.numbers, c.make_ready.ensures.released)
    (viewed_still s.keys c.keys_from.new.keys s.ids.items s.outcomes.items s.numbers.items s.key_slots c.make_ready.new.key_slots
    s.cache.pairs s.jobs_out.items s.units_settled s.units_not_due s.schedule s.mark c.self.invariant (λ n k stored is. c.keys_from.ensures.stay n k is)
    (λ n k marked is. c.keys_from.ensures.stay n k is)
    (c.keys_from.ensures.one c.self.invariant.kept.right.one) c.make_ready.ensures.same s.cache.capacity s.jobs_given s.released.items))

pub recount-lost-requires-clause-capacity : goal.recount-lost-requires-clause-capacity
recount-lost-requires-clause-capacity g c =
    rw (c.deref-5.ensures.value) (rw (c.deref-4.ensures.value) at c.in_ok-leaving.ensures.capacity)

pub recount-lost-requires-clause-fits : goal.recount-lost-requires-clause-fits
recount-lost-requires-clause-fits g c =
    let s = c.self.inside in
    let later = c.in_ok-past.later in
    rw (c.deref-5.ensures.value)
    (λ number.
    omega (
      arith,
      ap (λ slot. slot.uses) (c.make_ready.ensures.same.slots number),
      c.self.invariant.counted number,
      times_at_most number s.numbers.items,
      s.numbers.ok,
      s.numbers.small,
      later.ok,
      later.small,
    ))

pub recount-lost-requires-clause-enough : goal.recount-lost-requires-clause-enough
recount-lost-requires-clause-enough g c =
    let s = c.self.inside in
    let from = c.args.splice.from in
    rw (c.deref-6.ensures.value)
    (λ number.
    omega (
      arith,
      c.in_ok-leaving.ensures.counted number,
      sum_by-take-le (once_at number) (drop from s.numbers.items) (c.in_ok-past.past - from),
      sum_by-take-drop (once_at number) s.numbers.items from,
      ap (λ slot. slot.uses) (c.make_ready.ensures.same.slots number),
      c.self.invariant.counted number,
    ))

pub recount-lost-requires-clause-spare : goal.recount-lost-requires-clause-spare
recount-lost-requires-clause-spare g c = rw (c.deref-6.ensures.value) c.in_ok-leaving.ensures.spare

pub recount-lost-requires-clause-apart : goal.recount-lost-requires-clause-apart
recount-lost-requires-clause-apart g c = λ number used.
    c.self.invariant.apart number (subst (λ n. 0 < n) (ap (λ slot. slot.uses) (c.make_ready.ensures.same.slots number)) used)

pub changed_by-changed-requires-clause-splice : goal.changed_by-changed-requires-clause-splice
changed_by-changed-requires-clause-splice g c =
    let splice = rw (← c.sweep.ensures, ← c.self.view_is) at c.requires.splice in
    rw (c.deref-7.ensures.value, c.reserve.ensures.ids) splice

pub changed_by-changed-requires-clause-outcomes : goal.changed_by-changed-requires-clause-outcomes
changed_by-changed-requires-clause-outcomes g c =
    rw (c.deref-7.ensures.value, c.deref-8.ensures.value, c.reserve.ensures.ids, c.reserve.ensures.outcomes)
    (sym c.self.invariant.kept.same)

pub changed_by-changed-requires-clause-numbers : goal.changed_by-changed-requires-clause-numbers
changed_by-changed-requires-clause-numbers g c =
    let s = c.self.inside in
    rw (c.deref-7.ensures.value, c.deref-9.ensures.value, c.reserve.ensures.ids, c.make_ready.ensures.numbers)
    (found_length s.keys s.ids.items s.outcomes.items s.numbers.items s.key_slots s.cache.pairs s.cache.capacity s.jobs_out.items s.jobs_given s.released.items (marked_for s.keys s.mark)
    c.self.invariant.kept)

pub changed_by-changed-requires-clause-within : goal.changed_by-changed-requires-clause-within
changed_by-changed-requires-clause-within g c =
    let behind = rw (c.deref.ensures.value, c.reserve.ensures.ids) at c.in_ok-past.ensures.behind in
    rw (c.deref-7.ensures.value, c.reserve.ensures.ids) behind.1

pub changed_by-changed-requires-clause-later : goal.changed_by-changed-requires-clause-later
changed_by-changed-requires-clause-later g c =
    let s = c.self.inside in
    let ids = s.ids.items in
    let splice : IsSplice c.args.splice ids = rw (← c.sweep.ensures, ← c.self.view_is) at c.requires.splice in
    let behind = rw (c.deref.ensures.value, c.reserve.ensures.ids) at c.in_ok-past.ensures.behind in
    let anew =
    rw (
      c.deref.ensures.value,
      c.deref-2.ensures.value,
      c.deref-3.ensures.value,
      c.reserve.ensures.ids,
      c.reserve.ensures.outcomes,
    ) at c.in_ok-past.ensures.stand in
    rw (c.deref-10.ensures.value)
    (later_long ids s.outcomes.items c.self.invariant.kept.same c.args.splice splice c.keys_from.new.keys _ c.in_ok-past.past
    s.numbers.items c.in_ok-past.later.items
    (found_length s.keys s.ids.items s.outcomes.items s.numbers.items s.key_slots s.cache.pairs s.cache.capacity s.jobs_out.items s.jobs_given s.released.items (marked_for s.keys s.mark)
    c.self.invariant.kept)
    behind.0 behind.1 anew)

pub changed_by-changed-requires-clause-different : goal.changed_by-changed-requires-clause-different
changed_by-changed-requires-clause-different g c =
    let different = rw (← c.sweep.ensures, ← c.self.view_is) at c.requires.different in
    rw (c.deref-7.ensures.value, c.reserve.ensures.ids) different

pub changed_by-changed-requires-clause-apart : goal.changed_by-changed-requires-clause-apart
changed_by-changed-requires-clause-apart g c =
    let apart = rw (← c.sweep.ensures, ← c.self.view_is) at c.requires.apart in
    rw (c.deref-7.ensures.value, c.reserve.ensures.ids) apart

pub put_splice-requires-clause-splice : goal.put_splice-requires-clause-splice
put_splice-requires-clause-splice g c =
    let splice = rw (← c.sweep.ensures, ← c.self.view_is) at c.requires.splice in
    rw (c.reserve.ensures.ids) splice

pub put_splice-requires-clause-same : goal.put_splice-requires-clause-same
put_splice-requires-clause-same g c = rw (c.reserve.ensures.ids, c.reserve.ensures.outcomes) c.self.invariant.kept.same

pub put_splice-requires-clause-outcomes_capacity : goal.put_splice-requires-clause-outcomes_capacity
put_splice-requires-clause-outcomes_capacity g c =
    let splice : IsSplice c.args.splice c.self.inside.ids.items = rw (← c.sweep.ensures, ← c.self.view_is) at c.requires.splice in
    omega (arith, splice.same, c.in_ok-reserve.ensures.outcomes_capacity, c.len.ensures)

pub replace_range-requires-clause-ordered : goal.replace_range-requires-clause-ordered
replace_range-requires-clause-ordered g c =
    let splice : IsSplice c.args.splice c.self.inside.ids.items = rw (← c.sweep.ensures, ← c.self.view_is) at c.requires.splice in
    omega (arith, splice.ordered, c.in_ok-past.ensures.behind.0)

pub replace_range-requires-clause-inside : goal.replace_range-requires-clause-inside
replace_range-requires-clause-inside g c =
    let s = c.self.inside in
    let behind = rw (c.deref.ensures.value, c.reserve.ensures.ids) at c.in_ok-past.ensures.behind in
    omega (
      arith,
      behind.1,
      ap length c.make_ready.ensures.numbers,
      c.make_ready.new.numbers.ok.0,
      found_length s.keys s.ids.items s.outcomes.items s.numbers.items s.key_slots s.cache.pairs s.cache.capacity s.jobs_out.items s.jobs_given s.released.items (marked_for s.keys s.mark)
          c.self.invariant.kept,
    )

pub invariant_of-self-2 : goal.invariant_of-self-2
invariant_of-self-2 g c =
    let s = c.self.inside in
    let ids = s.ids.items in
    let outcomes = s.outcomes.items in
    let splice : IsSplice c.args.splice ids = rw (← c.sweep.ensures, ← c.self.view_is) at c.requires.splice in
    let decodable = rw (← c.sweep.ensures, ← c.self.view_is) at c.requires.decodable in
    let kept =
    kept_stays s.keys c.keys_from.new.keys s.ids.items s.outcomes.items s.numbers.items s.key_slots s.cache.pairs s.jobs_out.items
    c.self.invariant.kept (λ n k stored is. c.keys_from.ensures.stay n k is)
    (c.keys_from.ensures.one c.self.invariant.kept.right.one) in
    let later = c.in_ok-past.later in
    let past = c.in_ok-past.past in
    let anew =
    rw (
      c.deref.ensures.value,
      c.deref-2.ensures.value,
      c.deref-3.ensures.value,
      c.reserve.ensures.ids,
      c.reserve.ensures.outcomes,
    ) at c.in_ok-past.ensures.stand in
    let ordered : c.args.splice.from ≤ past = omega (arith, splice.ordered, c.in_ok-past.ensures.behind.0) in
    let numbers : List (Option ℕ) = take c.args.splice.from s.numbers.items ++ later.items ++ drop past s.numbers.items in
    let stand : AllStandFor c.keys_from.new.keys numbers (keys_of (zip (ids_with c.args.splice ids) (outcomes_with c.args.splice outcomes))) =
    subst (λ all. AllStandFor c.keys_from.new.keys all (keys_of (zip (ids_with c.args.splice ids) (outcomes_with c.args.splice outcomes))))
    (sym (append_assoc (take c.args.splice.from s.numbers.items) later.items (drop past s.numbers.items)))
    (stand_with ids outcomes kept.same c.args.splice splice c.keys_from.new.keys s.numbers.items
    (later.items ++ drop past s.numbers.items) kept.stand anew) in
    let leave : (number : ℕ) → times_in number c.deref-6.result.now
    ≡ times number (take (past - c.args.splice.from) (drop c.args.splice.from s.numbers.items)) =
    rw (c.deref-6.ensures.value) c.in_ok-leaving.ensures.counted in
    let counted = rw (c.deref-5.ensures.value) at
    c.recount-lost.ensures.recounted (take c.args.splice.from s.numbers.items)
    (take (past - c.args.splice.from) (drop c.args.splice.from s.numbers.items)) (drop past s.numbers.items)
    (countable s.key_slots c.make_ready.new.key_slots s.cache.pairs s.numbers.items c.args.splice.from past c.deref-6.result.now ordered
    c.make_ready.ensures.same c.self.invariant.counted c.self.invariant.apart leave) in
    let recounted : IsRecounted s.key_slots s.cache.pairs s.cache.capacity numbers c.recount-lost.new.key_slots c.recount-lost.new.cache.pairs c.recount-lost.result =
    recounted_same s.key_slots c.make_ready.new.key_slots s.cache.pairs s.cache.capacity numbers c.recount-lost.new.key_slots
    c.recount-lost.new.cache.pairs c.recount-lost.result c.make_ready.ensures.same counted in
    let found_are : c.replace_range.new.items.items ≡ numbers = rw (c.make_ready.ensures.numbers) at c.replace_range.ensures.items in
    let ids_are : c.put_splice.new.ids.items ≡ ids_with c.args.splice ids =
    rw (c.reserve.ensures.ids) at c.put_splice.ensures.ids in
    let outcomes_are : c.put_splice.new.outcomes.items ≡ outcomes_with c.args.splice outcomes =
    rw (c.reserve.ensures.outcomes) at c.put_splice.ensures.outcomes in
    let in_front : c.args.splice.from ≤ length s.numbers.items =
    omega (
      arith,
      splice.ordered,
      splice.within,
      found_length s.keys s.ids.items s.outcomes.items s.numbers.items s.key_slots s.cache.pairs s.cache.capacity s.jobs_out.items s.jobs_given s.released.items (marked_for s.keys s.mark)
          c.self.invariant.kept,
    ) in
    let later_found : List (Option ℕ) = later.items ++ drop past s.numbers.items in
    let parts : take c.args.splice.from s.numbers.items ++ later_found ≡ numbers =
    sym (append_assoc (take c.args.splice.from s.numbers.items) later.items (drop past s.numbers.items)) in
    let placed : ArePlaced (take c.args.splice.from s.numbers.items ++ later_found) s.key_slots s.cache.pairs c.recount-lost.new.key_slots =
    subst (λ all. ArePlaced all s.key_slots s.cache.pairs c.recount-lost.new.key_slots) (sym parts) recounted.placed in
    let out : List (JobOut g.row.P.Denot) = c.lower_all.new.jobs.items in
    let out_are : out ≡ map (lowered c.args.splice.from) s.jobs_out.items = c.lower_all.ensures in
    let after =
    kept_after c.keys_from.new.keys ids outcomes s.numbers.items s.key_slots s.cache.pairs s.jobs_out.items kept
    (ids_with c.args.splice ids) (outcomes_with c.args.splice outcomes) numbers
    c.recount-lost.new.key_slots stand recounted.placed recounted.left c.recount-lost.new.cache.pairs recounted.leaves
    recounted.left_pairs s.cache.capacity recounted.gone recounted.go c.recount-lost.result recounted.puts recounted.put_pairs
    (same_with ids outcomes kept.same c.args.splice splice) decodable in
    record {
      kept =
          rw (ids_are, outcomes_are, found_are)
          (kept_lowered c.keys_from.new.keys (ids_with c.args.splice ids) (outcomes_with c.args.splice outcomes) numbers
          c.recount-lost.new.key_slots c.recount-lost.new.cache.pairs s.jobs_out.items out c.args.splice.from out_are after);
      counted = rw (found_are) recounted.counted;
      apart = recounted.apart;
      settled =
          rw (found_are)
          (settled_lowered c.recount-lost.new.key_slots s.jobs_out.items out c.args.splice.from numbers c.min-self-inside.result out_are
          (subst (λ all. AreSettled c.recount-lost.new.key_slots s.jobs_out.items all c.min-self-inside.result) parts
          (settled_front s.key_slots c.recount-lost.new.key_slots s.cache.pairs s.jobs_out.items s.numbers.items
          later_found s.units_settled c.args.splice.from c.min-self-inside.result (omega (arith, c.min-self-inside.ensures))
          (omega (arith, c.min-self-inside.ensures)) in_front c.self.invariant.settled placed)));
      searched =
          rw (found_are)
          (looked_lowered c.keys_from.new.keys c.recount-lost.new.key_slots s.jobs_out.items out c.args.splice.from numbers
          c.min-self-inside-2.result out_are
          (subst (λ all. AreNotDue c.keys_from.new.keys c.recount-lost.new.key_slots s.jobs_out.items all c.min-self-inside-2.result) parts
          (looked_front c.keys_from.new.keys ids outcomes s.numbers.items s.key_slots s.cache.pairs s.jobs_out.items kept
          c.self.invariant.apart (ids_with c.args.splice ids) (outcomes_with c.args.splice outcomes) numbers
          c.recount-lost.new.key_slots stand recounted.placed after.right later_found s.units_not_due c.args.splice.from
          c.min-self-inside-2.result (omega (arith, c.min-self-inside-2.ensures)) (omega (arith, c.min-self-inside-2.ensures))
          in_front
          (looked_stays s.keys c.keys_from.new.keys s.ids.items s.outcomes.items s.numbers.items s.key_slots s.cache.pairs s.jobs_out.items
          c.self.invariant.kept (λ n k stored is. c.keys_from.ensures.stay n k is) s.units_not_due c.self.invariant.searched))));
      behind =
          rw (found_are)
          (subst (λ all. All (IsBehind all) out) parts
          (behind_lowered s.numbers.items later_found s.jobs_out.items out c.args.splice.from in_front out_are
          c.self.invariant.behind));
      scheduled = tt;
      marked = marks_stay s.keys c.keys_from.new.keys s.mark c.self.invariant.marked (λ n k marked is. c.keys_from.ensures.stay n k is);
    }

pub returns-clause-ok : goal.returns-clause-ok
returns-clause-ok g c =
    let s = c.self.inside in
    let ids = s.ids.items in
    let outcomes = s.outcomes.items in
    let splice : IsSplice c.args.splice ids = rw (← c.sweep.ensures, ← c.self.view_is) at c.requires.splice in
    let decodable = rw (← c.sweep.ensures, ← c.self.view_is) at c.requires.decodable in
    let kept =
    kept_stays s.keys c.keys_from.new.keys s.ids.items s.outcomes.items s.numbers.items s.key_slots s.cache.pairs s.jobs_out.items
    c.self.invariant.kept (λ n k stored is. c.keys_from.ensures.stay n k is)
    (c.keys_from.ensures.one c.self.invariant.kept.right.one) in
    let later = c.in_ok-past.later in
    let past = c.in_ok-past.past in
    let anew =
    rw (
      c.deref.ensures.value,
      c.deref-2.ensures.value,
      c.deref-3.ensures.value,
      c.reserve.ensures.ids,
      c.reserve.ensures.outcomes,
    ) at c.in_ok-past.ensures.stand in
    let ordered : c.args.splice.from ≤ past = omega (arith, splice.ordered, c.in_ok-past.ensures.behind.0) in
    let numbers : List (Option ℕ) = take c.args.splice.from s.numbers.items ++ later.items ++ drop past s.numbers.items in
    let stand : AllStandFor c.keys_from.new.keys numbers (keys_of (zip (ids_with c.args.splice ids) (outcomes_with c.args.splice outcomes))) =
    subst (λ all. AllStandFor c.keys_from.new.keys all (keys_of (zip (ids_with c.args.splice ids) (outcomes_with c.args.splice outcomes))))
    (sym (append_assoc (take c.args.splice.from s.numbers.items) later.items (drop past s.numbers.items)))
    (stand_with ids outcomes kept.same c.args.splice splice c.keys_from.new.keys s.numbers.items
    (later.items ++ drop past s.numbers.items) kept.stand anew) in
    let leave : (number : ℕ) → times_in number c.deref-6.result.now
    ≡ times number (take (past - c.args.splice.from) (drop c.args.splice.from s.numbers.items)) =
    rw (c.deref-6.ensures.value) c.in_ok-leaving.ensures.counted in
    let counted = rw (c.deref-5.ensures.value) at
    c.recount-lost.ensures.recounted (take c.args.splice.from s.numbers.items)
    (take (past - c.args.splice.from) (drop c.args.splice.from s.numbers.items)) (drop past s.numbers.items)
    (countable s.key_slots c.make_ready.new.key_slots s.cache.pairs s.numbers.items c.args.splice.from past c.deref-6.result.now ordered
    c.make_ready.ensures.same c.self.invariant.counted c.self.invariant.apart leave) in
    let recounted : IsRecounted s.key_slots s.cache.pairs s.cache.capacity numbers c.recount-lost.new.key_slots c.recount-lost.new.cache.pairs c.recount-lost.result =
    recounted_same s.key_slots c.make_ready.new.key_slots s.cache.pairs s.cache.capacity numbers c.recount-lost.new.key_slots
    c.recount-lost.new.cache.pairs c.recount-lost.result c.make_ready.ensures.same counted in
    let found_are : c.replace_range.new.items.items ≡ numbers = rw (c.make_ready.ensures.numbers) at c.replace_range.ensures.items in
    let ids_are : c.put_splice.new.ids.items ≡ ids_with c.args.splice ids =
    rw (c.reserve.ensures.ids) at c.put_splice.ensures.ids in
    let outcomes_are : c.put_splice.new.outcomes.items ≡ outcomes_with c.args.splice outcomes =
    rw (c.reserve.ensures.outcomes) at c.put_splice.ensures.outcomes in
    let capacity : c.recount-lost.new.cache.capacity ≡ s.cache.capacity = c.recount-lost.ensures.capacity in
    let old : StoreValue g.row.P.Denot = viewed s.keys ids outcomes s.numbers.items s.key_slots s.cache.pairs s.cache.capacity s.jobs_out.items s.jobs_given s.released.items (marked_for s.keys s.mark) in
    let marked : Marked = marked_for c.keys_from.new.keys s.mark in
    let is : viewed c.keys_from.new.keys ids outcomes s.numbers.items s.key_slots s.cache.pairs s.cache.capacity s.jobs_out.items s.jobs_given s.released.items marked ≡ old =
    viewed_still s.keys c.keys_from.new.keys ids outcomes s.numbers.items s.key_slots s.key_slots s.cache.pairs s.jobs_out.items
    s.units_settled s.units_not_due s.schedule s.mark c.self.invariant (λ n k stored is. c.keys_from.ensures.stay n k is)
    (λ n k marked is. c.keys_from.ensures.stay n k is) (c.keys_from.ensures.one c.self.invariant.kept.right.one) (same_self s.key_slots)
    s.cache.capacity s.jobs_given s.released.items in
    let out_are : c.lower_all.new.jobs.items ≡ map (lowered c.args.splice.from) s.jobs_out.items = c.lower_all.ensures in
    let out_seen : jobs_for c.keys_from.new.keys c.lower_all.new.jobs.items ≡ jobs_for c.keys_from.new.keys s.jobs_out.items =
    ap (jobs_for c.keys_from.new.keys) out_are
    ∙ jobs_lowered c.keys_from.new.keys c.args.splice.from s.jobs_out.items in
    rw (← c.sweep.ensures, ← c.self.view_is, capacity, ids_are, outcomes_are, found_are, out_seen)
    (subst (λ (store : StoreValue g.row.P.Denot). RefitsLosing store (ids_with c.args.splice ids) (outcomes_with c.args.splice outcomes) c.recount-lost.result
    (viewed c.keys_from.new.keys (ids_with c.args.splice ids) (outcomes_with c.args.splice outcomes)
    numbers c.recount-lost.new.key_slots c.recount-lost.new.cache.pairs s.cache.capacity s.jobs_out.items s.jobs_given c.forget_released.new.released.items marked)) is
    (refitted c.keys_from.new.keys ids outcomes s.numbers.items s.key_slots s.cache.pairs s.jobs_out.items kept
    (ids_with c.args.splice ids) (outcomes_with c.args.splice outcomes) numbers c.recount-lost.new.key_slots stand
    recounted.placed recounted.left c.recount-lost.new.cache.pairs recounted.leaves recounted.left_pairs s.cache.capacity
    recounted.gone recounted.go c.recount-lost.result recounted.puts recounted.put_pairs s.jobs_given s.released.items c.forget_released.new.released.items marked))

pub returns-clause-changed : goal.returns-clause-changed
returns-clause-changed g c =
    let s = c.self.inside in
    let ids = s.ids.items in
    let outcomes = s.outcomes.items in
    let splice : IsSplice c.args.splice ids = rw (← c.sweep.ensures, ← c.self.view_is) at c.requires.splice in
    let kept =
    kept_stays s.keys c.keys_from.new.keys s.ids.items s.outcomes.items s.numbers.items s.key_slots s.cache.pairs s.jobs_out.items
    c.self.invariant.kept (λ n k stored is. c.keys_from.ensures.stay n k is)
    (c.keys_from.ensures.one c.self.invariant.kept.right.one) in
    let later = c.in_ok-past.later in
    let past = c.in_ok-past.past in
    let anew =
    rw (
      c.deref.ensures.value,
      c.deref-2.ensures.value,
      c.deref-3.ensures.value,
      c.reserve.ensures.ids,
      c.reserve.ensures.outcomes,
    ) at c.in_ok-past.ensures.stand in
    let numbers : List (Option ℕ) = take c.args.splice.from s.numbers.items ++ later.items ++ drop past s.numbers.items in
    let stand : AllStandFor c.keys_from.new.keys numbers (keys_of (zip (ids_with c.args.splice ids) (outcomes_with c.args.splice outcomes))) =
    subst (λ all. AllStandFor c.keys_from.new.keys all (keys_of (zip (ids_with c.args.splice ids) (outcomes_with c.args.splice outcomes))))
    (sym (append_assoc (take c.args.splice.from s.numbers.items) later.items (drop past s.numbers.items)))
    (stand_with ids outcomes kept.same c.args.splice splice c.keys_from.new.keys s.numbers.items
    (later.items ++ drop past s.numbers.items) kept.stand anew) in
    let ids_are : c.put_splice.new.ids.items ≡ ids_with c.args.splice ids =
    rw (c.reserve.ensures.ids) at c.put_splice.ensures.ids in
    let outcomes_are : c.put_splice.new.outcomes.items ≡ outcomes_with c.args.splice outcomes =
    rw (c.reserve.ensures.outcomes) at c.put_splice.ensures.outcomes in
    let least =
    rw (
      c.deref-7.ensures.value,
      c.deref-8.ensures.value,
      c.deref-9.ensures.value,
      c.deref-10.ensures.value,
      c.reserve.ensures.ids,
      c.reserve.ensures.outcomes,
      c.make_ready.ensures.numbers,
    ) at c.changed_by-changed.ensures in
    rw (← c.sweep.ensures, ← c.self.view_is, ids_are, outcomes_are)
    (least_by_keys c.keys_from.new.keys kept.right.one ids (ids_with c.args.splice ids) outcomes (outcomes_with c.args.splice outcomes)
    s.numbers.items numbers (keys_of (zip ids outcomes))
    (keys_of (zip (ids_with c.args.splice ids) (outcomes_with c.args.splice outcomes))) kept.stand stand c.changed_by-changed.result
    least)

pub returns-clause-pictures : goal.returns-clause-pictures
returns-clause-pictures g c = λ back.
    let s = c.self.inside in
    let accounts : IsPermutation (pictures_of s.key_slots s.cache.pairs s.released.items)
    (pictures_of c.recount-lost.new.key_slots c.recount-lost.new.cache.pairs c.recount-lost.new.released.items) =
    subst (λ (held : List g.row.P.Denot). IsPermutation ((held ++ values_of s.cache.pairs) ++ s.released.items)
    (pictures_of c.recount-lost.new.key_slots c.recount-lost.new.cache.pairs c.recount-lost.new.released.items)) c.make_ready.ensures.same.pictures
    (subst (λ (gone : List g.row.P.Denot). IsPermutation (pictures_of c.make_ready.new.key_slots s.cache.pairs gone)
    (pictures_of c.recount-lost.new.key_slots c.recount-lost.new.cache.pairs c.recount-lost.new.released.items)) c.make_ready.ensures.released
    c.recount-lost.ensures.accounts) in
    rw (← c.sweep.ensures, ← c.self.view_is)
    (subst (λ (gone : List g.row.P.Denot). IsPermutation (pictures_of s.key_slots s.cache.pairs s.released.items)
    (pictures_of c.recount-lost.new.key_slots c.recount-lost.new.cache.pairs gone)) (sym (c.forget_released.ensures.stay back)) accounts)
