use Rattle.std.proofs.Common.{arith}
use Rattle.std.specs.List.{IsDistinct}
use Rattle.held_pictures.proofs.picture_cache.cache.PictureCache.clear.Goals as goal

pub invariant_of-self : goal.invariant_of-self
unfolding IsDistinct
invariant_of-self g c = (
  c.self.invariant.0,
  rw c.clear.ensures (record {
    once = tt;
    within = omega arith;
    least = c.self.invariant.1.least;
    most = c.self.invariant.1.most;
  }),
)
