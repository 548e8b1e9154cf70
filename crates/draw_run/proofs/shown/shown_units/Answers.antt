use Rattle.std.proofs.Common.{◌∷◌, [], arith, length-append}
use Rattle.draw_run.proofs.OneByOne.{shown_as-next, shown_as-none}
use Rattle.draw_run.proofs.shown.shown_units.Goals as goal

pub loop-place-init : goal.loop-place-init
loop-place-init c = record {
  units = rw c.new.ensures.items (omega arith);
  captions = rw c.new-2.ensures.items (omega arith);
  shown = rw (c.new.ensures.items, c.new-2.ensures.items)
      (shown_as-none c.args.session.now c.args.doubts.now);
}

pub loop-place-preserved : goal.loop-place-preserved
loop-place-preserved c =
    let before = c.loop-place in
    let units = before.shown.units.items in
    let captions = before.shown.captions.items in
    let unit = c.in_ok-unit.unit in
    let caption = c.in_ok-unit.caption in
    record {
      units = rw c.in_ok-push.ensures.items (omega (arith, length-append units (unit ∷ []), before.invariant.units));
      captions = rw c.in_ok-push-2.ensures.items (omega (arith, length-append captions (caption ∷ []), before.invariant.captions));
      shown = rw (c.in_ok-push.ensures.items, c.in_ok-push-2.ensures.items)
          (shown_as-next c.args.session.now c.args.ids.now c.args.doubts.now units captions before.place c.index-ids-place.result
          c.index-doubts-place.result unit caption c.loop-place-test.true c.requires c.index-ids-place.is c.index-doubts-place.is before.invariant.shown c.in_ok-unit.ensures);
    }
