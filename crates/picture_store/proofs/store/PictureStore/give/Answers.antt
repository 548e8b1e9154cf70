use Rattle.std.proofs.Common.{◌≡◌, refl, sym, ◌∙◌, Some, ◌∷◌, ◌++◌, [], arith}
use Rattle.std.specs.List.{zip}
use Rattle.std.proofs.lemmas.Option.{get_or_from_slice_get, slice_get_within}
use Rattle.picture_store.specs.Marks.{marked_for}
use Rattle.picture_store.proofs.Landed.{found_length}
use Rattle.picture_store.proofs.Looked.{behind_more, looked_more}
use Rattle.picture_store.proofs.Pended.{due_number}
use Rattle.picture_store.proofs.Scheduling.{scheduled_given}
use Rattle.picture_store.proofs.Settled.{settled_more}
use Rattle.picture_store.proofs.Taken.{known, has_known, outcome_same, whole_of, given_job, kept_taken}
use Rattle.picture_store.proofs.store.PictureStore.give.Goals as goal

pub index-outcome-requires : goal.index-outcome-requires
index-outcome-requires g c =
    let s = c.self.inside in
    let is = rw (← c.self.view_is) at c.requires.number in
    omega (
      arith,
      slice_get_within s.numbers.items c.args.at (Some c.args.key) is,
      found_length s.keys s.ids.items s.outcomes.items s.numbers.items s.key_slots s.cache.pairs s.cache.capacity s.jobs_out.items s.jobs_given s.released.items (marked_for s.keys s.mark)
          c.self.invariant.kept,
      c.self.invariant.kept.same,
      s.outcomes.ok.0,
    )

pub input_of-requires-clause-ready : goal.input_of-requires-clause-ready
input_of-requires-clause-ready g c =
    let s = c.self.inside in
    let due = due_number s.keys s.ids.items s.outcomes.items s.numbers.items s.key_slots s.cache.pairs s.cache.capacity s.jobs_out.items s.jobs_given s.released.items (marked_for s.keys s.mark)
    c.self.invariant.kept c.args.at c.args.key (rw (← c.self.view_is) at c.requires.number) (rw (← c.self.view_is) at c.requires.due) in
    (due.key, due.tree, due.ready)

pub input_of-requires-clause-known : goal.input_of-requires-clause-known
input_of-requires-clause-known g c =
    let s = c.self.inside in
    let there = rw (← c.self.view_is) at c.requires.number in
    let within = slice_get_within s.numbers.items c.args.at (Some c.args.key) there in
    let is = sym (get_or_from_slice_get s.numbers.items c.args.at (Some c.args.key) (Some c.args.key) there) in
    let due = due_number s.keys s.ids.items s.outcomes.items s.numbers.items s.key_slots s.cache.pairs s.cache.capacity s.jobs_out.items s.jobs_given s.released.items (marked_for s.keys s.mark)
    c.self.invariant.kept c.args.at c.args.key there (rw (← c.self.view_is) at c.requires.due) in
    let same = outcome_same s.keys s.ids.items s.outcomes.items s.numbers.items s.key_slots s.cache.pairs s.cache.capacity s.jobs_out.items s.jobs_given s.released.items (marked_for s.keys s.mark)
    c.self.invariant.kept c.args.at within c.args.key is due c.index-outcome.result.now c.index-outcome.ensures in
    rw (c.deref-2.ensures, c.deref.ensures) (
      known s.keys s.ids.items s.outcomes.items s.numbers.items s.key_slots s.cache.pairs s.cache.capacity s.jobs_out.items s.jobs_given s.released.items (marked_for s.keys s.mark)
          c.self.invariant.kept c.args.at within c.args.key is due,
      has_known s.keys s.ids.items s.outcomes.items s.numbers.items s.key_slots s.cache.pairs s.cache.capacity s.jobs_out.items s.jobs_given s.released.items (marked_for s.keys s.mark)
          c.self.invariant.kept c.args.at within c.args.key is due c.index-outcome.result.now same,
    )

pub new-job-requires : goal.new-job-requires
new-job-requires g c =
    let s = c.self.inside in
    let there = rw (← c.self.view_is) at c.requires.number in
    let within = slice_get_within s.numbers.items c.args.at (Some c.args.key) there in
    let is = sym (get_or_from_slice_get s.numbers.items c.args.at (Some c.args.key) (Some c.args.key) there) in
    let due = due_number s.keys s.ids.items s.outcomes.items s.numbers.items s.key_slots s.cache.pairs s.cache.capacity s.jobs_out.items s.jobs_given s.released.items (marked_for s.keys s.mark)
    c.self.invariant.kept c.args.at c.args.key there (rw (← c.self.view_is) at c.requires.due) in
    let same = outcome_same s.keys s.ids.items s.outcomes.items s.numbers.items s.key_slots s.cache.pairs s.cache.capacity s.jobs_out.items s.jobs_given s.released.items (marked_for s.keys s.mark)
    c.self.invariant.kept c.args.at within c.args.key is due c.index-outcome.result.now c.index-outcome.ensures in
    let input = rw (c.deref-2.ensures, c.deref.ensures) at c.in_ok-input.ensures.known in
    let made = input (known s.keys s.ids.items s.outcomes.items s.numbers.items s.key_slots s.cache.pairs s.cache.capacity s.jobs_out.items s.jobs_given s.released.items (marked_for s.keys s.mark)
    c.self.invariant.kept c.args.at within c.args.key is due) (has_known s.keys s.ids.items s.outcomes.items s.numbers.items s.key_slots s.cache.pairs s.cache.capacity s.jobs_out.items s.jobs_given s.released.items (marked_for s.keys s.mark)
    c.self.invariant.kept c.args.at within c.args.key is due c.index-outcome.result.now same) in
    whole_of s.keys s.ids.items s.outcomes.items s.numbers.items s.key_slots s.cache.pairs s.cache.capacity s.jobs_out.items s.jobs_given s.released.items (marked_for s.keys s.mark)
    c.self.invariant.kept c.args.at within c.args.key is due c.index-outcome.result.now c.in_ok-input.input made

pub invariant_of-self-2 : goal.invariant_of-self-2
invariant_of-self-2 g c =
    let s = c.self.inside in
    let there = rw (← c.self.view_is) at c.requires.number in
    let within = slice_get_within s.numbers.items c.args.at (Some c.args.key) there in
    let is = sym (get_or_from_slice_get s.numbers.items c.args.at (Some c.args.key) (Some c.args.key) there) in
    let due = due_number s.keys s.ids.items s.outcomes.items s.numbers.items s.key_slots s.cache.pairs s.cache.capacity s.jobs_out.items s.jobs_given s.released.items (marked_for s.keys s.mark)
    c.self.invariant.kept c.args.at c.args.key there (rw (← c.self.view_is) at c.requires.due) in
    let same = outcome_same s.keys s.ids.items s.outcomes.items s.numbers.items s.key_slots s.cache.pairs s.cache.capacity s.jobs_out.items s.jobs_given s.released.items (marked_for s.keys s.mark)
    c.self.invariant.kept c.args.at within c.args.key is due c.index-outcome.result.now c.index-outcome.ensures in
    let input = rw (c.deref-2.ensures, c.deref.ensures) at c.in_ok-input.ensures.known in
    let made = input (known s.keys s.ids.items s.outcomes.items s.numbers.items s.key_slots s.cache.pairs s.cache.capacity s.jobs_out.items s.jobs_given s.released.items (marked_for s.keys s.mark)
    c.self.invariant.kept c.args.at within c.args.key is due) (has_known s.keys s.ids.items s.outcomes.items s.numbers.items s.key_slots s.cache.pairs s.cache.capacity s.jobs_out.items s.jobs_given s.released.items (marked_for s.keys s.mark)
    c.self.invariant.kept c.args.at within c.args.key is due c.index-outcome.result.now same) in
    let more : c.push_reserved.new.self.items
    ≡ s.jobs_out.items ++ (record { number = c.in-Some.number; key = c.args.key; input = c.in_ok-input.input; first_place = s.units_not_due }) ∷ [] =
    c.push_reserved.ensures.items
    ∙ rw (c.reserve.ensures.items, c.in_ok-copy.ensures) refl in
    record {
      kept =
          kept_taken s.keys s.ids.items s.outcomes.items s.numbers.items s.key_slots s.cache.pairs s.cache.capacity s.jobs_out.items s.jobs_given s.released.items (marked_for s.keys s.mark)
          c.self.invariant.kept c.args.at within c.args.key is due g.met.P.Decoded.closed c.index-outcome.result.now same c.in_ok-input.input made c.in-Some.number s.units_not_due
          c.push_reserved.new.self.items more;
      counted = c.self.invariant.counted;
      apart = c.self.invariant.apart;
      settled =
          settled_more s.key_slots s.jobs_out.items (record { number = c.in-Some.number; key = c.args.key; input = c.in_ok-input.input; first_place = s.units_not_due })
          c.push_reserved.new.self.items s.numbers.items s.units_settled more c.self.invariant.settled;
      searched =
          looked_more s.keys s.key_slots s.jobs_out.items s.numbers.items
          (record { number = c.in-Some.number; key = c.args.key; input = c.in_ok-input.input; first_place = s.units_not_due })
          c.push_reserved.new.self.items more s.units_not_due c.self.invariant.searched;
      behind =
          behind_more s.keys s.key_slots s.jobs_out.items s.numbers.items s.units_not_due c.self.invariant.searched
          (record { number = c.in-Some.number; key = c.args.key; input = c.in_ok-input.input; first_place = s.units_not_due })
          c.push_reserved.new.self.items more refl due c.self.invariant.behind;
      scheduled =
          scheduled_given s.keys (zip s.ids.items s.outcomes.items) s.numbers.items s.key_slots s.jobs_out.items
          (record { number = c.in-Some.number; key = c.args.key; input = c.in_ok-input.input; first_place = s.units_not_due }) c.push_reserved.new.self.items more
          s.schedule c.self.invariant.scheduled;
      marked = c.self.invariant.marked;
    }

pub returns : goal.returns
returns g c =
    let s = c.self.inside in
    let there = rw (← c.self.view_is) at c.requires.number in
    let within = slice_get_within s.numbers.items c.args.at (Some c.args.key) there in
    let is = sym (get_or_from_slice_get s.numbers.items c.args.at (Some c.args.key) (Some c.args.key) there) in
    let due = due_number s.keys s.ids.items s.outcomes.items s.numbers.items s.key_slots s.cache.pairs s.cache.capacity s.jobs_out.items s.jobs_given s.released.items (marked_for s.keys s.mark)
    c.self.invariant.kept c.args.at c.args.key there (rw (← c.self.view_is) at c.requires.due) in
    let same = outcome_same s.keys s.ids.items s.outcomes.items s.numbers.items s.key_slots s.cache.pairs s.cache.capacity s.jobs_out.items s.jobs_given s.released.items (marked_for s.keys s.mark)
    c.self.invariant.kept c.args.at within c.args.key is due c.index-outcome.result.now c.index-outcome.ensures in
    let input = rw (c.deref-2.ensures, c.deref.ensures) at c.in_ok-input.ensures.known in
    let made = input (known s.keys s.ids.items s.outcomes.items s.numbers.items s.key_slots s.cache.pairs s.cache.capacity s.jobs_out.items s.jobs_given s.released.items (marked_for s.keys s.mark)
    c.self.invariant.kept c.args.at within c.args.key is due) (has_known s.keys s.ids.items s.outcomes.items s.numbers.items s.key_slots s.cache.pairs s.cache.capacity s.jobs_out.items s.jobs_given s.released.items (marked_for s.keys s.mark)
    c.self.invariant.kept c.args.at within c.args.key is due c.index-outcome.result.now same) in
    let more : c.push_reserved.new.self.items
    ≡ s.jobs_out.items ++ (record { number = c.in-Some.number; key = c.args.key; input = c.in_ok-input.input; first_place = s.units_not_due }) ∷ [] =
    c.push_reserved.ensures.items
    ∙ rw (c.reserve.ensures.items, c.in_ok-copy.ensures) refl in (
      refl,
      rw (← c.self.view_is, c.new-job.ensures)
          (given_job s.keys s.ids.items s.outcomes.items s.numbers.items s.key_slots s.cache.pairs s.cache.capacity s.jobs_out.items s.jobs_given s.released.items (marked_for s.keys s.mark)
          c.self.invariant.kept c.args.at within c.args.key is due c.index-outcome.result.now same c.in_ok-input.input made c.in_ok-input.ensures.held c.in-Some.number s.units_not_due
          (omega (arith, c.in-Some.ensures)) c.push_reserved.new.self.items more),
    )
