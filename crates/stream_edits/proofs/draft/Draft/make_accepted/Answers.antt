use Rattle.std.proofs.Common.{◌≡◌, length, refl, ap, sym, ◌∙◌, arith}
use Rattle.stream_edits.specs.Changes.{stream_after}
use Rattle.stream_edits.specs.Streams.{ids_of}
use Rattle.stream_edits.proofs.Drafted.{ids_after}
use Rattle.stream_edits.proofs.draft.Draft.make_accepted.Goals as goal

pub returns : goal.returns
returns c =
    let change = c.args.accepted.change in
    let units = c.args.self.now.units.items in
    let made : c.make.new.units.items ≡ stream_after change units = rw (c.reserve.ensures.items) at c.make.ensures in
    let brought = rw (c.units.ensures) at c.in_ok-ids.ensures in
    let ids = rw (c.at-2.ensures, c.rest_from-2.ensures, brought, c.reserve-2.ensures.items, c.requires.ids) at c.replace_range.ensures.items in
    let long : c.len.result ≡ length units = omega (arith, c.len.ensures, c.reserve.new.self.ok.0, ap length c.reserve.ensures.items) in
    record {
      units_are = made;
      ids_are = ids ∙ (ids_after change units ∙ ap ids_of (sym made));
      given_is = refl;
      about_is = c.in_ok-push.ensures.items;
      front_is = rw (c.at.ensures) at c.min-self.ensures;
      rest_is = rw (c.rest_from.ensures, long) at c.min-self-2.ensures;
    }
