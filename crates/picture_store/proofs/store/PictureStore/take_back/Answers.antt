use Rattle.picture_store.specs.Looked.{IsBehind}
use Rattle.picture_store.specs.Marks.{marked_for}
use Rattle.picture_store.proofs.Landed.{all_without, kept_without, seen_without}
use Rattle.picture_store.proofs.Looked.{none_looked}
use Rattle.picture_store.proofs.Settled.{none_settled}
use Rattle.picture_store.proofs.store.PictureStore.take_back.Goals as goal

pub invariant_of-self : goal.invariant_of-self
invariant_of-self g c =
    let s = c.self.inside in
    rw (c.remove.ensures.items)
    (record {
      kept =
          kept_without s.keys s.ids.items s.outcomes.items s.numbers.items s.key_slots s.cache.pairs s.jobs_out.items c.self.invariant.kept
          c.args.at;
      counted = c.self.invariant.counted;
      apart = c.self.invariant.apart;
      settled = none_settled s.key_slots _ s.numbers.items;
      searched = none_looked s.keys s.key_slots _ s.numbers.items;
      behind = all_without (IsBehind s.numbers.items) s.jobs_out.items c.args.at c.self.invariant.behind;
      scheduled = tt;
      marked = c.self.invariant.marked;
    })

pub returns : goal.returns
returns g c =
    let s = c.self.inside in
    rw (← c.self.view_is)
    (seen_without s.keys s.ids.items s.outcomes.items s.numbers.items s.key_slots s.cache.pairs s.cache.capacity s.jobs_out.items
    c.remove.new.self.items s.jobs_given s.released.items (marked_for s.keys s.mark) c.args.at c.remove.ensures.items)
