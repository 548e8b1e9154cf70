-- Each NAL unit is cut off with its start code and stored, or the first refusal is shown.
use Rattle.std.proofs.Common.{[], ◌+◌, drop, ◌∙◌}
use Rattle.std.proofs.lemmas.List.{get_or_read}
use Rattle.std.proofs.lemmas.Result.{err_from_is_err_and}
use Rattle.access_unit.proofs.Firsts.{IsShown-first}
use Rattle.access_unit.proofs.Progress.{left_next, IsReadTo-first, IsAddedTo-more, IsOfUnit-end}
use Rattle.access_unit.proofs.unit.unit_of_parts.Goals as goal

pub cut_next-requires : goal.cut_next-requires
cut_next-requires c =
    let loop = c.loop-nal in
    let item_is = get_or_read c.args.nals.now loop.nal-index c.nal-item.result c.loop-nal-test.true c.nal-item.is [] in
    (drop (loop.nal-index + 1) c.args.nals.now, rw item_is (left_next _ _ _ loop.invariant.left c.loop-nal-test.true))

pub returns-in_err-add-clause-err : goal.returns-in_err-add-clause-err
returns-in_err-add-clause-err c =
    let loop = c.loop-nal in
    let item_is = get_or_read c.args.nals.now loop.nal-index c.nal-item.result c.loop-nal-test.true c.nal-item.is [] in
    let added = c.in_ok-coded.ensures.nal ∙ item_is in
    let p = err_from_is_err_and c.from_residual-in_err-add.result c.from_residual-in_err-add.ensures.1 in
    rw (p.1, p.2) (IsShown-first _ _ loop.invariant.added.sound c.loop-nal-test.true _ (rw (added, loop.invariant.added.stored.nals_are) at c.in_err-add.ensures.err))

pub loop-nal-preserved : goal.loop-nal-preserved
loop-nal-preserved c =
    let loop = c.loop-nal in
    let item_is = get_or_read c.args.nals.now loop.nal-index c.nal-item.result c.loop-nal-test.true c.nal-item.is [] in
    let added = c.in_ok-coded.ensures.nal ∙ item_is in
    let next = left_next _ _ _ loop.invariant.left c.loop-nal-test.true in
    record {
      left = c.in_ok-coded.ensures.rest _ (rw item_is next);
      added =
          IsAddedTo-more _ _ _ loop.invariant.added c.loop-nal-test.true _
          (rw added at c.in_ok-add.ensures.ok.0)
          (rw added at c.in_ok-add.ensures.ok.1);
    }

pub loop-nal-init : goal.loop-nal-init
loop-nal-init c = IsReadTo-first _ _ _ c.requires.has c.in_ok-parts.ensures

pub content_of-requires-clause-parts : goal.content_of-requires-clause-parts
content_of-requires-clause-parts c =
    IsOfUnit-end _ _ _ c.loop-nal.invariant.added c.loop-nal-test.false _ c.requires
