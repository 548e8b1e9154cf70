use Rattle.std.proofs.Common.{◌≡◌, ◌∙◌, ◌+◌, ℕ, List, [], ◌∷◌, ◌++◌, take, ap, sym}
use Rattle.std.proofs.lemmas.List.{take_more}
use Rattle.draw_run.specs.declared.drawn_fold.KeptUnit.{KeptUnit}
use Rattle.draw_run.proofs.OneByOne.{shown-none, shown-push}
use Rattle.draw_run.proofs.drawn.kept_units.Goals as goal

pub loop-one-init : goal.loop-one-init
loop-one-init c = rw (c.new.ensures.items, c.new-2.ensures.items) (shown-none c.args.positions.now c.args.doubts.now)

pub loop-one-preserved : goal.loop-one-preserved
loop-one-preserved c =
    let before = c.loop-one in
    let kept = c.args.kept.now in
    let at = before.one-index in
    let one = c.one-item.result in
    let taken : take (at + 1) kept ≡ take at kept ++ one ∷ [] =
    take_more kept at one c.loop-one-test.true ∙ ap (λ (k : KeptUnit). take at kept ++ k ∷ []) (sym c.one-item.is) in
    rw (c.in_ok-push.ensures.items, c.in_ok-push-2.ensures.items, taken)
    (shown-push c.args.positions.now c.args.doubts.now (take at kept) before.shown.units.items before.shown.captions.items
    one c.in_ok-unit.unit c.in_ok-unit.caption before.invariant
    (rw (c.position_of-position.ensures, c.doubt_in-doubt.ensures) at c.in_ok-unit.ensures))
