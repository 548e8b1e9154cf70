use Rattle.picture_store.specs.Marks.{marked_for}
use Rattle.picture_store.proofs.Numbered.{all_numbered}
use Rattle.picture_store.proofs.Viewed.{viewed}
use Rattle.picture_store.proofs.store.PictureStore.numbers.Goals as goal

pub returns-clause-numbered : goal.returns-clause-numbered
returns-clause-numbered g c =
    let s = c.self.inside in
    rw (← c.self.view_is)
    (all_numbered s.keys
    (viewed s.keys s.ids.items s.outcomes.items s.numbers.items s.key_slots s.cache.pairs s.cache.capacity s.jobs_out.items s.jobs_given s.released.items (marked_for s.keys s.mark))
    c.self.invariant.kept.stand)
