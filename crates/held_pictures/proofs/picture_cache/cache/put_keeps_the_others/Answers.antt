use Rattle.held_pictures.proofs.Finds.{others_after_put}
use Rattle.held_pictures.proofs.picture_cache.cache.put_keeps_the_others.Goals as goal

pub returns : goal.returns
returns g c cache key other picture is capacity apart =
    others_after_put g.K.PartialEq.eq g.met.K.Eq.laws cache key other picture is capacity apart
