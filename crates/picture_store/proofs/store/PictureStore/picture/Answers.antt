use Rattle.std.proofs.Common.{◌<◌, sym, ◌∙◌, length, arith}
use Rattle.picture_store.specs.Marks.{marked_for}
use Rattle.picture_store.proofs.Landed.{found_length, shows_none, shows_place, shows_unused}
use Rattle.picture_store.proofs.store.PictureStore.picture.Goals as goal

pub index-requires : goal.index-requires
index-requires g c =
    let s = c.self.inside in
    let within = rw (← c.self.view_is) at c.requires in
    omega (
      arith,
      within,
      found_length s.keys s.ids.items s.outcomes.items s.numbers.items s.key_slots s.cache.pairs s.cache.capacity s.jobs_out.items s.jobs_given s.released.items (marked_for s.keys s.mark) c.self.invariant.kept,
      s.numbers.ok.0,
    )

pub returns-in_err-index : goal.returns-in_err-index
returns-in_err-index g c =
    let s = c.self.inside in
    let inside = rw (← c.self.view_is) at c.requires in
    let within : c.args.at < length s.numbers.items =
    omega (arith, inside, found_length s.keys s.ids.items s.outcomes.items s.numbers.items s.key_slots s.cache.pairs s.cache.capacity s.jobs_out.items s.jobs_given s.released.items (marked_for s.keys s.mark) c.self.invariant.kept) in
    let is = rw (c.in_err-index.was {u = tt}) at c.index.ensures in
    rw (c.from_residual.ensures, ← c.self.view_is)
    (shows_none s.keys s.ids.items s.outcomes.items s.numbers.items s.key_slots s.cache.pairs s.cache.capacity s.jobs_out.items s.jobs_given s.released.items (marked_for s.keys s.mark)
    c.self.invariant.kept c.args.at within is)

pub returns-in_err-get : goal.returns-in_err-get
returns-in_err-get g c =
    let s = c.self.inside in
    let inside = rw (← c.self.view_is) at c.requires in
    let within : c.args.at < length s.numbers.items =
    omega (arith, inside, found_length s.keys s.ids.items s.outcomes.items s.numbers.items s.key_slots s.cache.pairs s.cache.capacity s.jobs_out.items s.jobs_given s.released.items (marked_for s.keys s.mark) c.self.invariant.kept) in
    let is = rw (c.in_ok-index.was {u = tt}) at c.index.ensures in
    rw (c.from_residual-in_err-get.ensures, ← c.self.view_is)
    (shows_unused s.keys s.ids.items s.outcomes.items s.numbers.items s.key_slots s.cache.pairs s.cache.capacity s.jobs_out.items s.jobs_given s.released.items (marked_for s.keys s.mark)
    c.self.invariant.kept c.args.at within c.in_ok-index.field-0 is (sym c.get.ensures ∙ c.in_err-get.was {u = tt}))

pub returns : goal.returns
returns g c =
    let s = c.self.inside in
    let inside = rw (← c.self.view_is) at c.requires in
    let within : c.args.at < length s.numbers.items =
    omega (arith, inside, found_length s.keys s.ids.items s.outcomes.items s.numbers.items s.key_slots s.cache.pairs s.cache.capacity s.jobs_out.items s.jobs_given s.released.items (marked_for s.keys s.mark) c.self.invariant.kept) in
    let is = rw (c.in_ok-index.was {u = tt}) at c.index.ensures in
    rw (← c.self.view_is)
    (shows_place s.keys s.ids.items s.outcomes.items s.numbers.items s.key_slots s.cache.pairs s.cache.capacity s.jobs_out.items s.jobs_given s.released.items (marked_for s.keys s.mark)
    c.self.invariant.kept c.args.at within c.in_ok-index.field-0 is c.in_ok-get.field-0 (sym c.get.ensures ∙ c.in_ok-get.was {u = tt}))
