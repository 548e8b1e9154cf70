-- Each NAL unit is stored, or the first refusal is shown.
use Rattle.std.proofs.Common.{[], ◌∙◌}
use Rattle.std.proofs.lemmas.List.{get_or_read, take_all}
use Rattle.std.proofs.lemmas.Result.{err_from_is_err_and}
use Rattle.access_unit.proofs.Firsts.{IsShown-first}
use Rattle.access_unit.proofs.Progress.{IsAddedTo-more, IsOfUnit-end}
use Rattle.access_unit.proofs.unit.unit_with.Goals as goal

pub returns-in_err-add-clause-err : goal.returns-in_err-add-clause-err
returns-in_err-add-clause-err c =
    let loop = c.loop-nal in
    let item_is = get_or_read c.args.nals.now loop.nal-index c.nal-item.result c.loop-nal-test.true c.nal-item.is [] in
    let added = c.in_ok-clone.ensures.cases ∙ item_is in
    let p = err_from_is_err_and c.from_residual-in_err-add.result c.from_residual-in_err-add.ensures.1 in
    rw (p.1, p.2) (IsShown-first _ _ loop.invariant.added.sound c.loop-nal-test.true _ (rw (added, loop.invariant.added.stored.nals_are) at c.in_err-add.ensures.err))

pub loop-nal-preserved : goal.loop-nal-preserved
loop-nal-preserved c =
    let loop = c.loop-nal in
    let item_is = get_or_read c.args.nals.now loop.nal-index c.nal-item.result c.loop-nal-test.true c.nal-item.is [] in
    let added = c.in_ok-clone.ensures.cases ∙ item_is in
    record {
      added =
          IsAddedTo-more _ _ _ loop.invariant.added c.loop-nal-test.true _
          (rw added at c.in_ok-add.ensures.ok.0)
          (rw added at c.in_ok-add.ensures.ok.1);
      text_is = loop.invariant.text_is;
    }

pub content_of-requires-clause-parts : goal.content_of-requires-clause-parts
content_of-requires-clause-parts c =
    IsOfUnit-end _ _ _ c.loop-nal.invariant.added c.loop-nal-test.false _ c.requires.short

pub content_of-requires-clause-text : goal.content_of-requires-clause-text
content_of-requires-clause-text c =
    let loop = c.loop-nal in
    rw (loop.invariant.added.stored.nals_are ∙ take_all loop.nal-index c.args.nals.now c.loop-nal-test.false) loop.invariant.text_is
