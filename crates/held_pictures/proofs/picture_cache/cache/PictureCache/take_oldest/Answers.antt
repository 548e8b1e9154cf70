use Rattle.held_pictures.proofs.Oldest.{oldest_taken, bounded_before}
use Rattle.held_pictures.proofs.picture_cache.cache.PictureCache.take_oldest.Goals as goal

pub invariant_of-self : goal.invariant_of-self
invariant_of-self g c =
    let old = c.self.inside.cache in
    rw c.pop_lru.ensures.entries
    (c.self.invariant.0, bounded_before g.K.PartialEq.eq (record { pairs = old.entries; capacity = old.cap }) c.self.invariant.1)

pub returns-clause-bounded : goal.returns-clause-bounded
returns-clause-bounded g c = (invariant_of-self g c).1

pub returns-clause-oldest : goal.returns-clause-oldest
returns-clause-oldest g c =
    let old = c.self.inside.cache in
    rw (c.second.ensures, c.pop_lru.ensures.value, c.pop_lru.ensures.entries, ← c.self.view_is)
    (oldest_taken old.entries old.cap)
