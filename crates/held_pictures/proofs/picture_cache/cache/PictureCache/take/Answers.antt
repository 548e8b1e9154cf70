use Rattle.held_pictures.proofs.Accounts.{removed}
use Rattle.held_pictures.proofs.Puts.{IsBounded-without}
use Rattle.held_pictures.proofs.picture_cache.cache.PictureCache.take.Goals as goal

pub invariant_of-self : goal.invariant_of-self
invariant_of-self g c =
    let old = c.self.inside.cache in
    rw c.pop.ensures.entries
    (c.self.invariant.0, IsBounded-without g.K.PartialEq.eq c.args.key (record { pairs = old.entries; capacity = old.cap }) c.self.invariant.1)

pub returns-clause-bounded : goal.returns-clause-bounded
returns-clause-bounded g c = (invariant_of-self g c).1

pub returns-clause-accounts : goal.returns-clause-accounts
returns-clause-accounts g c =
    rw (c.pop.ensures.entries, c.pop.ensures.value, ← c.self.view_is)
    (removed (g.K.PartialEq.eq c.args.key) c.self.inside.cache.entries)
