use Rattle.std.proofs.Common.{◌≡◌, ◌<◌, ◌↔◌, ℕ, List, Option, Some, IsTrue, length, not, refl, sym, subst, slice_get, arith}
use Rattle.std.proofs.lemmas.Option.{slice_get_read}
use Rattle.picture_store.specs.Altered.{IsAltered}
use Rattle.picture_store.specs.Marks.{AreMarked, marked_for}
use Rattle.picture_store.proofs.Landed.{found_length}
use Rattle.picture_store.proofs.Marked.{altered_by, none_altered}
use Rattle.picture_store.proofs.Viewed.{viewed}
use Rattle.picture_store.proofs.store.PictureStore.is_altered.Goals as goal

pub index-requires : goal.index-requires
index-requires g c =
    let s = c.self.inside in
    let within = rw (← c.self.view_is) at c.requires in
    omega (
      arith,
      within,
      found_length s.keys s.ids.items s.outcomes.items s.numbers.items s.key_slots s.cache.pairs s.cache.capacity s.jobs_out.items s.jobs_given s.released.items (marked_for s.keys s.mark) c.self.invariant.kept,
      s.numbers.ok.0,
    )

pub returns-in_default : goal.returns-in_default
returns-in_default g c =
    let s = c.self.inside in
    let is = rw (c.in_default.is) at c.index.ensures in
    rw (← c.self.view_is) (
      λ no. absurd (cc),
      λ altered. absurd (none_altered s.keys s.ids.items s.outcomes.items s.numbers.items s.key_slots s.cache.pairs s.cache.capacity s.jobs_out.items s.jobs_given s.released.items c.self.invariant.kept
          (marked_for s.keys s.mark) c.args.at is altered),
    )

pub returns-in-Some-mark : goal.returns-in-Some-mark
returns-in-Some-mark g c =
    let s = c.self.inside in
    let inside = rw (← c.self.view_is) at c.requires in
    let within : c.args.at < length s.numbers.items =
    omega (arith, inside, found_length s.keys s.ids.items s.outcomes.items s.numbers.items s.key_slots s.cache.pairs s.cache.capacity s.jobs_out.items s.jobs_given s.released.items (marked_for s.keys s.mark) c.self.invariant.kept) in
    let is = rw (c.in-Some.is) at c.index.ensures in
    let there : slice_get s.numbers.items c.args.at ≡ Some (Some c.in-Some.key) =
    slice_get_read s.numbers.items (length s.numbers.items) c.args.at (Some c.in-Some.key) refl within is in
    let are : AreMarked s.keys (Some c.in-Some-mark.mark) = subst (AreMarked s.keys) c.in-Some-mark.is c.self.invariant.marked in
    rw (← c.self.view_is)
    (subst (λ (mark : Option (List ℕ)). IsTrue (not c.has.result) ↔ IsAltered
    (viewed s.keys s.ids.items s.outcomes.items s.numbers.items s.key_slots s.cache.pairs s.cache.capacity s.jobs_out.items s.jobs_given s.released.items (marked_for s.keys mark)) c.args.at)
    (sym c.in-Some-mark.is)
    (altered_by s.keys s.ids.items s.outcomes.items s.numbers.items s.key_slots s.cache.pairs s.cache.capacity s.jobs_out.items s.jobs_given s.released.items c.self.invariant.kept
    c.in-Some-mark.mark c.args.at c.in-Some.key there c.has.result c.has.ensures are))
