use Rattle.std.proofs.Common.{◌≡◌, ◌<◌, length, Some, refl, arith}
use Rattle.std.specs.Prelude.{slice_get}
use Rattle.std.specs.List.{zip}
use Rattle.std.proofs.lemmas.Option.{slice_get_read}
use Rattle.picture_keys.specs.Known.{keys_of}
use Rattle.picture_store.specs.Marks.{marked_for}
use Rattle.picture_store.proofs.Landed.{found_length}
use Rattle.picture_store.proofs.Numbered.{number_seen, one_to_one}
use Rattle.picture_store.proofs.Viewed.{viewed}
use Rattle.picture_store.proofs.store.PictureStore.key_at.Goals as goal

pub index-requires : goal.index-requires
index-requires g c =
    let s = c.self.inside in
    let within = rw (← c.self.view_is) at c.requires in
    omega (
      arith,
      within,
      found_length s.keys s.ids.items s.outcomes.items s.numbers.items s.key_slots s.cache.pairs s.cache.capacity s.jobs_out.items s.jobs_given s.released.items (marked_for s.keys s.mark) c.self.invariant.kept,
      s.numbers.ok.0,
    )

pub returns-clause-value : goal.returns-clause-value
returns-clause-value g c =
    let s = c.self.inside in
    let inside = rw (← c.self.view_is) at c.requires in
    let within : c.args.at < length s.numbers.items =
    omega (arith, inside, found_length s.keys s.ids.items s.outcomes.items s.numbers.items s.key_slots s.cache.pairs s.cache.capacity s.jobs_out.items s.jobs_given s.released.items (marked_for s.keys s.mark) c.self.invariant.kept) in
    let read : slice_get s.numbers.items c.args.at ≡ Some c.index.result.now =
    slice_get_read s.numbers.items (length s.numbers.items) c.args.at c.index.result.now refl within c.index.ensures in
    rw (← c.self.view_is)
    (number_seen s.keys
    (viewed s.keys s.ids.items s.outcomes.items s.numbers.items s.key_slots s.cache.pairs s.cache.capacity s.jobs_out.items s.jobs_given s.released.items (marked_for s.keys s.mark))
    c.self.invariant.kept.stand c.args.at c.index.result.now read)

pub returns-clause-one : goal.returns-clause-one
returns-clause-one g c =
    let s = c.self.inside in
    rw (← c.self.view_is)
    (one_to_one s.keys c.self.invariant.kept.right.one s.numbers.items (keys_of (zip s.ids.items s.outcomes.items))
    s.numbers.items (keys_of (zip s.ids.items s.outcomes.items)) c.self.invariant.kept.stand c.self.invariant.kept.stand)
