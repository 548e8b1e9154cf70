use Rattle.held_pictures.proofs.Finds.{out_after_take, others_after_take}
use Rattle.held_pictures.proofs.picture_cache.cache.take_keeps_the_others.Goals as goal

pub returns-clause-out : goal.returns-clause-out
returns-clause-out g c cache key is = out_after_take g.K.PartialEq.eq g.met.K.Eq.laws cache key is

pub returns-clause-others : goal.returns-clause-others
returns-clause-others g c cache key other is apart = others_after_take g.K.PartialEq.eq g.met.K.Eq.laws cache key other is apart
