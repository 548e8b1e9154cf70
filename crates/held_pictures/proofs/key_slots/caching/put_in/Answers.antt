use Rattle.std.proofs.Common.{refl, ap, subst, inl, inr}
use Rattle.std.specs.Prelude.{Contains}
use Rattle.std.specs.Map.{keys_of, values_of}
use Rattle.std.specs.Option.{option_to_list}
use Rattle.held_pictures.proofs.Bags.{put_released, refused_released}
use Rattle.held_pictures.proofs.Caches.{put_keys, among_put}
use Rattle.held_pictures.proofs.key_slots.caching.put_in.Goals as goal

pub returns-in-Ok-clause-puts : goal.returns-in-Ok-clause-puts
returns-in-Ok-clause-puts g c =
    inl (
      rw (ap (λ cache. cache.pairs) c.in-Ok.ensures.ok.0)
          (put_keys c.args.cache.now.capacity c.args.key c.args.picture c.args.cache.now.pairs c.len.ensures.bounded.once),
      refl,
    )

pub returns-in-Err-clause-puts : goal.returns-in-Err-clause-puts
returns-in-Err-clause-puts g c = inr (ap (λ cache. keys_of cache.pairs) c.in-Err.ensures.err.1, refl)

pub returns-in-Ok-clause-those : goal.returns-in-Ok-clause-those
returns-in-Ok-clause-those g c = λ number other is.
    among_put c.args.cache.now.capacity c.args.key c.args.picture c.args.cache.now.pairs number other
    (subst (λ pairs. Contains pairs (number, other)) (ap (λ cache. cache.pairs) c.in-Ok.ensures.ok.0) is)

pub returns-in-Err-clause-those : goal.returns-in-Err-clause-those
returns-in-Err-clause-those g c = λ number other is.
    inl (subst (λ pairs. Contains pairs (number, other)) (ap (λ cache. cache.pairs) c.in-Err.ensures.err.1) is)

pub returns-in-Ok-clause-accounts : goal.returns-in-Ok-clause-accounts
returns-in-Ok-clause-accounts g c =
    rw c.release.ensures.items
    (put_released c.args.picture (values_of c.args.cache.now.pairs) (values_of c.put.new.self.pairs) (option_to_list c.in-Ok.out)
    c.args.released.now.items c.in-Ok.ensures.accounts)

pub returns-in-Err-clause-accounts : goal.returns-in-Err-clause-accounts
returns-in-Err-clause-accounts g c =
    rw (ap (λ cache. cache.pairs) c.in-Err.ensures.err.1, c.push_reserved.ensures.items, c.in-Err.ensures.err.0)
    (refused_released c.args.picture (values_of c.args.cache.now.pairs) c.args.released.now.items)
