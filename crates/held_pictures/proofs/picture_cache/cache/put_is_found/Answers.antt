use Rattle.held_pictures.proofs.Finds.{found_after_put}
use Rattle.held_pictures.proofs.picture_cache.cache.put_is_found.Goals as goal

pub returns : goal.returns
returns g c cache key picture is = found_after_put g.K.PartialEq.eq g.met.K.Eq.laws cache key picture is
