use Rattle.std.proofs.Common.{◌≡◌, refl, sym, ap, ◌∙◌, subst, ◌<◌, length, Option, Some, slice_get, arith}
use Rattle.std.specs.Option.{is_some}
use Rattle.std.proofs.lemmas.Option.{same_Some, slice_get_read}
use Rattle.held_pictures.specs.KeySlots.{picture_held}
use Rattle.held_pictures.proofs.Slots.{used_some}
use Rattle.picture_store.specs.Marks.{marked_for}
use Rattle.picture_store.proofs.Emptied.{kept_emptied, held_emptied}
use Rattle.picture_store.proofs.Landed.{found_length}
use Rattle.picture_store.proofs.Looked.{none_looked}
use Rattle.picture_store.proofs.Pended.{held_key_at, no_key, not_held}
use Rattle.picture_store.proofs.Settled.{none_settled}
use Rattle.picture_store.proofs.store.PictureStore.drop_picture.Goals as goal

pub index-requires : goal.index-requires
index-requires g c =
    let s = c.self.inside in
    let inside = rw (← c.self.view_is) at c.requires in
    let within : c.args.at < length s.numbers.items =
    omega (arith, inside, found_length s.keys s.ids.items s.outcomes.items s.numbers.items s.key_slots s.cache.pairs s.cache.capacity s.jobs_out.items s.jobs_given s.released.items (marked_for s.keys s.mark) c.self.invariant.kept) in
    omega (arith, within, s.numbers.ok.0)

pub returns-in_default : goal.returns-in_default
returns-in_default g c =
    let s = c.self.inside in
    let is = rw (c.in_default.is) at c.index.ensures in
    rw (← c.self.view_is) (
      no_key s.keys s.ids.items s.outcomes.items s.numbers.items s.key_slots s.cache.pairs s.cache.capacity s.jobs_out.items s.jobs_given s.released.items (marked_for s.keys s.mark) c.self.invariant.kept
          c.args.at is,
      refl,
    )

pub returns-then-not-is_held : goal.returns-then-not-is_held
returns-then-not-is_held g c =
    let s = c.self.inside in
    let inside = rw (← c.self.view_is) at c.requires in
    let within : c.args.at < length s.numbers.items =
    omega (arith, inside, found_length s.keys s.ids.items s.outcomes.items s.numbers.items s.key_slots s.cache.pairs s.cache.capacity s.jobs_out.items s.jobs_given s.released.items (marked_for s.keys s.mark) c.self.invariant.kept) in
    let is = rw (c.in-Some.is) at c.index.ensures in
    let there : slice_get s.numbers.items c.args.at ≡ Some (Some c.in-Some.key) =
    slice_get_read s.numbers.items (length s.numbers.items) c.args.at (Some c.in-Some.key) refl within is in
    rw (← c.self.view_is) (
      not_held s.keys s.ids.items s.outcomes.items s.numbers.items s.key_slots s.cache.pairs s.cache.capacity s.jobs_out.items s.jobs_given s.released.items (marked_for s.keys s.mark) c.self.invariant.kept
          c.args.at c.in-Some.key there (λ held. let answer = c.is_held.ensures.1 held in cc),
      refl,
    )

pub returns : goal.returns
returns g c =
    let s = c.self.inside in
    let inside = rw (← c.self.view_is) at c.requires in
    let within : c.args.at < length s.numbers.items =
    omega (arith, inside, found_length s.keys s.ids.items s.outcomes.items s.numbers.items s.key_slots s.cache.pairs s.cache.capacity s.jobs_out.items s.jobs_given s.released.items (marked_for s.keys s.mark) c.self.invariant.kept) in
    let is = rw (c.in-Some.is) at c.index.ensures in
    let there : slice_get s.numbers.items c.args.at ≡ Some (Some c.in-Some.key) =
    slice_get_read s.numbers.items (length s.numbers.items) c.args.at (Some c.in-Some.key) refl within is in
    let held = c.is_held.ensures.0 c.if-not-is_held.false in
    let key = held_key_at s.keys s.ids.items s.outcomes.items s.numbers.items s.key_slots s.cache.pairs s.cache.capacity s.jobs_out.items s.jobs_given s.released.items (marked_for s.keys s.mark) c.self.invariant.kept c.args.at
    c.in-Some.key there held in
    let right = c.self.invariant.kept.right.held c.in-Some.key held.0 held.1 in
    let picture : c.empty-picture.result ≡ Some held.0 =
    c.empty-picture.ensures.picture ∙ ap (λ (place : Option (Option g.row.P.Denot)). picture_held place) held.1 in
    let accounts = rw (picture) at c.empty-picture.ensures.accounts in
    rw (← c.self.view_is, picture) (
      key.0,
      key.1,
      key.3,
      subst (λ k. g.P.Decoded.IsOf k held.0) (same_Some right.0 key.0 (sym right.1 ∙ key.2)) right.2,
      λ other. held_emptied s.keys s.ids.items s.outcomes.items s.numbers.items s.key_slots c.empty-picture.new.self s.cache.pairs s.jobs_out.items
          c.self.invariant.kept c.in-Some.key held
          (c.empty-picture.ensures.key_slots (used_some s.key_slots c.in-Some.key (ap is_some held.1))) key.0 other key.2,
      (accounts, refl, refl),
      refl,
    )

pub invariant_of-self : goal.invariant_of-self
invariant_of-self g c =
    let s = c.self.inside in
    let inside = rw (← c.self.view_is) at c.requires in
    let within : c.args.at < length s.numbers.items =
    omega (arith, inside, found_length s.keys s.ids.items s.outcomes.items s.numbers.items s.key_slots s.cache.pairs s.cache.capacity s.jobs_out.items s.jobs_given s.released.items (marked_for s.keys s.mark) c.self.invariant.kept) in
    let is = rw (c.in-Some.is) at c.index.ensures in
    let there : slice_get s.numbers.items c.args.at ≡ Some (Some c.in-Some.key) =
    slice_get_read s.numbers.items (length s.numbers.items) c.args.at (Some c.in-Some.key) refl within is in
    let held = c.is_held.ensures.0 c.if-not-is_held.false in
    record {
      kept =
          kept_emptied s.keys s.ids.items s.outcomes.items s.numbers.items s.key_slots c.empty-picture.new.self s.cache.pairs s.jobs_out.items
          c.self.invariant.kept c.in-Some.key held
          (c.empty-picture.ensures.key_slots (used_some s.key_slots c.in-Some.key (ap is_some held.1)));
      counted = λ number. c.empty-picture.ensures.uses number ∙ c.self.invariant.counted number;
      apart = λ number used. c.self.invariant.apart number (subst (λ n. 0 < n) (c.empty-picture.ensures.uses number) used);
      settled = none_settled c.empty-picture.new.self s.jobs_out.items s.numbers.items;
      searched = none_looked s.keys c.empty-picture.new.self s.jobs_out.items s.numbers.items;
      behind = c.self.invariant.behind;
      scheduled = tt;
      marked = c.self.invariant.marked;
    }
