use Rattle.std.proofs.Common.{ap, subst}
use Rattle.std.specs.Prelude.{Contains}
use Rattle.held_pictures.proofs.Caches.{left_of_remove, among_removed, others_found}
use Rattle.held_pictures.proofs.key_slots.caching.take_one.Goals as goal

pub returns-clause-left : goal.returns-clause-left
returns-clause-left g c =
    rw (ap (λ cache. cache.pairs) c.take.ensures.after)
    (left_of_remove c.args.key c.args.cache.now.pairs c.len.ensures.bounded.once)

pub returns-clause-those : goal.returns-clause-those
returns-clause-those g c = λ number picture is.
    among_removed c.args.key c.args.cache.now.pairs (number, picture)
    (subst (λ pairs. Contains pairs (number, picture)) (ap (λ cache. cache.pairs) c.take.ensures.after) is)

pub returns-clause-others : goal.returns-clause-others
returns-clause-others g c = λ number apart.
    rw (ap (λ cache. cache.pairs) c.take.ensures.after)
    (others_found c.args.key number c.args.cache.now.pairs apart)
