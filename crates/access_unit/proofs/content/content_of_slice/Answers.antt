-- The header of the slice comes first, and then what its order among none shows.
use Rattle.std.proofs.Common.{inr, sym, ◌∙◌}
use Rattle.std.proofs.lemmas.Result.{err_from_is_err_and}
use Rattle.access_unit.proofs.Shown.{IsShown-header}
use Rattle.access_unit.proofs.LoneSlices.{refusal_of-one, IsShown-one, refusal_at-slice, IsContentOf-only_slice}
use Rattle.access_unit.proofs.content.content_of_slice.Goals as goal

pub returns-in_err-check_header-clause-err : goal.returns-in_err-check_header-clause-err
returns-in_err-check_header-clause-err c =
    let p = err_from_is_err_and c.from_residual.result c.from_residual.ensures.1 in
    rw (p.1, p.2) (IsShown-one c.args.nal.now _ (IsShown-header _ c.args.nal.now _ c.in_err-check_header.ensures))

pub returns-in_err-check_order-clause-err : goal.returns-in_err-check_order-clause-err
returns-in_err-check_order-clause-err c =
    let p = err_from_is_err_and c.from_residual-in_err-check_order.result c.from_residual-in_err-check_order.ensures.1 in
    let shown = refusal_at-slice c.args.nal.now c.requires.slice c.in_ok-check_header.ensures in
    rw (p.1, p.2) (IsShown-one c.args.nal.now _ (inr (shown ∙ sym c.in_err-check_order.ensures)))

pub returns-clause-ok : goal.returns-clause-ok
returns-clause-ok c =
    let nal = c.args.nal.now in
    let sound = refusal_of-one nal ∙ (refusal_at-slice nal c.requires.slice c.in_ok-check_header.ensures ∙ sym c.in_ok-check_order.ensures) in
    (rw c.in_ok-cut_next.ensures.nal (IsContentOf-only_slice nal c.requires.slice c.args.text c.requires.short sound), sound)
