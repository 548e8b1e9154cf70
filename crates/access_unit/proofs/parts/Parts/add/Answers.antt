-- Each check answers its part of the table, and what passes is stored.
use Rattle.std.proofs.Common.{sym, ◌∙◌, inr}
use Rattle.std.proofs.lemmas.Result.{err_from_is_err_and}
use Rattle.access_unit.proofs.Shown.{IsShown-header, IsShown-set, refusal_at-order}
use Rattle.access_unit.proofs.Keeps.{slices-more, sets-more}
use Rattle.access_unit.proofs.parts.Parts.add.Goals as goal

pub returns-in_err-check_header-clause-err : goal.returns-in_err-check_header-clause-err
returns-in_err-check_header-clause-err c =
    let p = err_from_is_err_and c.from_residual.result c.from_residual.ensures.1 in
    rw (p.1, p.2) (IsShown-header _ _ _ (rw c.nal-nal.ensures at c.in_err-check_header.ensures))

pub returns-in_err-set-clause-err : goal.returns-in_err-set-clause-err
returns-in_err-set-clause-err c =
    let p = err_from_is_err_and c.from_residual-in_err-set.result c.from_residual-in_err-set.ensures.1 in
    rw (p.1, p.2) (IsShown-set _ _ (rw c.nal-nal.ensures at c.in_ok-check_header.ensures) _ (rw c.nal-nal.ensures at c.in_err-set.ensures.err))

pub returns-in_err-check_order-clause-err : goal.returns-in_err-check_order-clause-err
returns-in_err-check_order-clause-err c =
    let p = err_from_is_err_and c.from_residual-in_err-check_order.result c.from_residual-in_err-check_order.ensures.1 in
    let slices = c.deref.ensures.value ∙ c.requires.slices_are in
    let shown = rw c.nal-nal.ensures at c.in_err-check_order.ensures in
    let none = rw c.nal-nal.ensures at (c.in_ok-set.ensures.ok.1) in
    rw (p.1, p.2) (inr (refusal_at-order _ _ (rw c.nal-nal.ensures at c.in_ok-check_header.ensures) _ slices none ∙ sym shown))

pub returns-clause-ok : goal.returns-clause-ok
returns-clause-ok c =
    let units = c.args.self.now.nals.items in
    let slices = c.deref.ensures.value ∙ c.requires.slices_are in
    let shown = rw c.nal-nal.ensures at c.in_ok-check_order.ensures in
    let none = rw c.nal-nal.ensures at (c.in_ok-set.ensures.ok.1) in (
      record {
        nals_are = c.in_ok-push.ensures.items;
        slices_are = rw (c.in_ok-push_some-2.ensures, c.in_ok-slice_of.ensures) (slices-more units c.args.coded _ c.requires.slices_are);
        sets_are = rw (c.in_ok-push_some.ensures, c.in_ok-set.ensures.ok.0, c.nal-nal.ensures) (sets-more units c.args.coded _ c.requires.sets_are);
      },
      refusal_at-order _ _ (rw c.nal-nal.ensures at c.in_ok-check_header.ensures) _ slices none ∙ sym shown,
    )
