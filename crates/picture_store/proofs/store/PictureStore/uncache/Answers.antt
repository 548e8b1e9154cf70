use Rattle.picture_store.specs.Marks.{marked_for}
use Rattle.picture_store.proofs.Uncached.{kept_left, numbered_left, uncaches}
use Rattle.picture_store.proofs.store.PictureStore.uncache.Goals as goal

pub invariant_of-self : goal.invariant_of-self
invariant_of-self g c =
    let s = c.self.inside in
    record {
      kept =
          kept_left s.keys s.ids.items s.outcomes.items s.numbers.items s.key_slots s.cache c.take_oldest.new.self s.jobs_out.items
          c.self.invariant.kept c.take_oldest.result c.take_oldest.ensures.oldest;
      counted = c.self.invariant.counted;
      apart = λ number used among.
          c.self.invariant.apart number used
          (numbered_left s.keys s.ids.items s.outcomes.items s.numbers.items s.key_slots s.cache c.take_oldest.new.self s.jobs_out.items
          c.self.invariant.kept c.take_oldest.result c.take_oldest.ensures.oldest number among);
      settled = c.self.invariant.settled;
      searched = c.self.invariant.searched;
      behind = c.self.invariant.behind;
      scheduled = c.self.invariant.scheduled;
      marked = c.self.invariant.marked;
    }

pub returns : goal.returns
returns g c =
    let s = c.self.inside in
    rw (← c.self.view_is)
    (uncaches s.keys s.ids.items s.outcomes.items s.numbers.items s.key_slots s.cache c.take_oldest.new.self s.jobs_out.items
    c.self.invariant.kept c.take_oldest.result c.take_oldest.ensures.oldest s.jobs_given s.released.items (marked_for s.keys s.mark))
