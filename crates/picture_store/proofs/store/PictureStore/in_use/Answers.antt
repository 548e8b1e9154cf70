use Rattle.std.proofs.Common.{Some, ◌↔◌}
use Rattle.std.specs.Prelude.{Contains, IsTrue}
use Rattle.std.specs.List.{zip}
use Rattle.picture_keys.specs.Known.{keys_of}
use Rattle.picture_store.specs.Marks.{marked_for}
use Rattle.picture_store.proofs.Numbered.{in_use_listed, listed_in_use, one_to_one}
use Rattle.picture_store.proofs.Viewed.{viewed}
use Rattle.picture_store.proofs.store.PictureStore.in_use.Goals as goal

pub returns-clause-value : goal.returns-clause-value
returns-clause-value g c =
    let s = c.self.inside in
    let store = viewed s.keys s.ids.items s.outcomes.items s.numbers.items s.key_slots s.cache.pairs s.cache.capacity s.jobs_out.items s.jobs_given s.released.items (marked_for s.keys s.mark) in
    let listed : IsTrue c.is_some.result ↔ Contains s.numbers.items (Some c.args.key) =
    rw (c.is_some.ensures, c.get.ensures) (c.self.invariant.kept.used c.args.key) in
    rw (← c.self.view_is) (
      λ yes. in_use_listed s.keys store c.self.invariant.kept.stand c.args.key (listed.0 yes),
      λ is. listed.1 (listed_in_use store c.args.key is),
    )

pub returns-clause-listed : goal.returns-clause-listed
returns-clause-listed g c =
    rw (← c.self.view_is, c.is_some.ensures, c.get.ensures) (c.self.invariant.kept.used c.args.key)

pub returns-clause-one : goal.returns-clause-one
returns-clause-one g c =
    let s = c.self.inside in
    rw (← c.self.view_is)
    (one_to_one s.keys c.self.invariant.kept.right.one s.numbers.items (keys_of (zip s.ids.items s.outcomes.items))
    s.numbers.items (keys_of (zip s.ids.items s.outcomes.items)) c.self.invariant.kept.stand c.self.invariant.kept.stand)
