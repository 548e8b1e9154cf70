use Rattle.std.proofs.Common.{◌∙◌, ap}
use Rattle.picture_store.proofs.Marked.{marked_same, marks_stay}
use Rattle.picture_store.proofs.Viewed.{Marked, viewed}
use Rattle.picture_store.specs.Marks.{marked_for}
use Rattle.picture_store.proofs.Looked.{looked_stays}
use Rattle.picture_store.proofs.Stays.{kept_stays, viewed_stays}
use Rattle.picture_store.proofs.store.PictureStore.sweep.Goals as goal

pub invariant_of-self : goal.invariant_of-self
invariant_of-self g c =
    let s = c.self.inside in
    let stay = rw (c.deref.ensures.value, c.deref-2.ensures.value) at c.sweep_at.ensures.stay in
    record {
      kept =
          kept_stays s.keys c.sweep_at.new.keys s.ids.items s.outcomes.items s.numbers.items s.key_slots s.cache.pairs s.jobs_out.items
          c.self.invariant.kept stay (c.sweep_at.ensures.one c.self.invariant.kept.right.one);
      counted = c.self.invariant.counted;
      apart = c.self.invariant.apart;
      settled = c.self.invariant.settled;
      searched =
          looked_stays s.keys c.sweep_at.new.keys s.ids.items s.outcomes.items s.numbers.items s.key_slots s.cache.pairs s.jobs_out.items
          c.self.invariant.kept stay s.units_not_due c.self.invariant.searched;
      behind = c.self.invariant.behind;
      scheduled = tt;
      marked = marks_stay s.keys c.sweep_at.new.keys s.mark c.self.invariant.marked c.sweep_at.ensures.marks;
    }

pub returns-in_err-sweep_threshold : goal.returns-in_err-sweep_threshold
returns-in_err-sweep_threshold g c =
    let s = c.self.inside in
    let stay = rw (c.deref.ensures.value, c.deref-2.ensures.value) at c.sweep_at.ensures.stay in
    rw (← c.self.view_is)
    (ap (λ (marked : Marked). viewed c.sweep_at.new.keys s.ids.items s.outcomes.items s.numbers.items s.key_slots s.cache.pairs s.cache.capacity
    s.jobs_out.items s.jobs_given s.released.items marked)
    (marked_same s.keys c.sweep_at.new.keys s.mark c.self.invariant.marked c.sweep_at.ensures.marks)
    ∙ viewed_stays s.keys c.sweep_at.new.keys s.ids.items s.outcomes.items s.numbers.items s.key_slots s.cache.pairs s.jobs_out.items
    c.self.invariant.kept stay s.cache.capacity s.jobs_given s.released.items (marked_for s.keys s.mark))

pub invariant_of-self-2 : goal.invariant_of-self-2
invariant_of-self-2 g c =
    let s = c.self.inside in
    let stay = rw (c.deref.ensures.value, c.deref-2.ensures.value) at c.sweep_at.ensures.stay in
    record {
      kept =
          kept_stays s.keys c.sweep_at.new.keys s.ids.items s.outcomes.items s.numbers.items s.key_slots s.cache.pairs s.jobs_out.items
          c.self.invariant.kept stay (c.sweep_at.ensures.one c.self.invariant.kept.right.one);
      counted = c.self.invariant.counted;
      apart = c.self.invariant.apart;
      settled = c.self.invariant.settled;
      searched =
          looked_stays s.keys c.sweep_at.new.keys s.ids.items s.outcomes.items s.numbers.items s.key_slots s.cache.pairs s.jobs_out.items
          c.self.invariant.kept stay s.units_not_due c.self.invariant.searched;
      behind = c.self.invariant.behind;
      scheduled = tt;
      marked = marks_stay s.keys c.sweep_at.new.keys s.mark c.self.invariant.marked c.sweep_at.ensures.marks;
    }

pub returns : goal.returns
returns g c =
    let s = c.self.inside in
    let stay = rw (c.deref.ensures.value, c.deref-2.ensures.value) at c.sweep_at.ensures.stay in
    rw (← c.self.view_is)
    (ap (λ (marked : Marked). viewed c.sweep_at.new.keys s.ids.items s.outcomes.items s.numbers.items s.key_slots s.cache.pairs s.cache.capacity
    s.jobs_out.items s.jobs_given s.released.items marked)
    (marked_same s.keys c.sweep_at.new.keys s.mark c.self.invariant.marked c.sweep_at.ensures.marks)
    ∙ viewed_stays s.keys c.sweep_at.new.keys s.ids.items s.outcomes.items s.numbers.items s.key_slots s.cache.pairs s.jobs_out.items
    c.self.invariant.kept stay s.cache.capacity s.jobs_given s.released.items (marked_for s.keys s.mark))
