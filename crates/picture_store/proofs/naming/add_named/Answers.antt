use Rattle.std.proofs.Common.{◌≡◌, refl, ◌∙◌, sym, ◌<◌, Some, true, length, slice_get, arith}
use Rattle.std.specs.List.{list_any}
use Rattle.std.proofs.lemmas.List.{map-append}
use Rattle.std.proofs.lemmas.Option.{slice_get_read, slice_get_within}
use Rattle.picture_store.specs.Naming.{picture_in}
use Rattle.picture_store.specs.Referenced.{names}
use Rattle.picture_store.proofs.Referring.{named_at, none_shown, shown_more}
use Rattle.picture_store.proofs.naming.add_named.Goals as goal

pub returns-in_ok-push-clause-shown : goal.returns-in_ok-push-clause-shown
returns-in_ok-push-clause-shown g c = λ before.
    let units = c.args.units.now in
    let entries = c.args.entries.now in
    let at = c.in-Some.at in
    let inside : at < length units = slice_get_within units at (Some c.args.frame) c.in-Some.ensures.named in
    let within : at < length entries = omega (arith, c.requires.least) in
    rw (c.in_ok-push.ensures.items, c.timestamp-timestamp.ensures)
    (shown_more c.args.key_slots.now units entries c.args.references.now.items before at c.args.frame
    c.index-entries-at.result c.in-Some-picture_in.picture c.in-Some.ensures.named
    (slice_get_read entries (length entries) at c.index-entries-at.result refl within c.index-entries-at.is) (sym c.picture_in.ensures ∙ c.in-Some-picture_in.is))

pub returns-in_ok-push-clause-times : goal.returns-in_ok-push-clause-times
returns-in_ok-push-clause-times g c =
    let named : list_any (names c.args.frame) c.args.units.now ≡ true =
    named_at c.args.frame c.args.units.now c.in-Some.at c.in-Some.ensures.named in
    rw (c.in_ok-push.ensures.items, c.timestamp-timestamp.ensures, named)
    (map-append (λ reference. reference.timestamp) c.args.references.now.items _)

pub returns-in_default-picture_in-clause-times : goal.returns-in_default-picture_in-clause-times
returns-in_default-picture_in-clause-times g c =
    let units = c.args.units.now in
    let entries = c.args.entries.now in
    let at = c.in-Some.at in
    let inside : at < length units = slice_get_within units at (Some c.args.frame) c.in-Some.ensures.named in
    let within : at < length entries = omega (arith, c.requires.least) in
    let entry_at : slice_get entries at ≡ Some c.index-entries-at.result =
    slice_get_read entries (length entries) at c.index-entries-at.result refl within c.index-entries-at.is in
    absurd (none_shown (picture_in c.args.key_slots.now c.index-entries-at.result)
    (sym c.picture_in.ensures ∙ c.in_default-picture_in.is)
    (c.requires.covered c.args.frame c.index-entries-at.result (at, c.in-Some.ensures.named, entry_at)))
