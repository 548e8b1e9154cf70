-- Each unit found is one more of the text's, and the first fault met is the text's.
use Rattle.std.proofs.Common.{sym, ◌∙◌}
use Rattle.std.proofs.lemmas.Bool.{and_parts, cond-true}
use Rattle.std.proofs.lemmas.Result.{err_from_is_err_and}
use Rattle.annexb.proofs.Splits.{IsSplitTo-first, IsSplitTo-more, HasUnits-from_split}
use Rattle.annexb.proofs.Refusals.{IsFaultOf-from_fault}
use Rattle.annexb.proofs.byte_stream.units_from.Goals as goal

pub loop-next-init : goal.loop-next-init
loop-next-init c = rw c.new-units.ensures.items (IsSplitTo-first c.args.text.now c.args.first c.requires)

pub returns-in_err-found-clause-err : goal.returns-in_err-found-clause-err
returns-in_err-found-clause-err c =
    let split = rw c.in-Some.is at c.loop-next.invariant in
    let p = err_from_is_err_and c.from_residual.result c.from_residual.ensures.1 in
    rw (p.1, p.2) (IsFaultOf-from_fault c.args.text.now c.in-Some.at split.after split.clear c.in_err-found.field-0.0 split.begins c.in_err-found.ensures.err)

pub loop-next-preserved : goal.loop-next-preserved
loop-next-preserved c =
    let split = rw c.in-Some.is at c.loop-next.invariant in
    let found = c.in_ok-found.found in
    IsSplitTo-more c.args.text.now c.in-Some.at c.loop-next.is_stored c.loop-next.units.items split found.nal found.next _ _ c.in_ok-found.ensures.ok (λ yes.
    let both = and_parts c.loop-next.is_stored c.is_ok-is_stored.result yes in
    (both.0, c.push.ensures.items ∙ cond-true _ _ _ (sym c.is_ok-is_stored.ensures.value ∙ both.1)))

pub returns-then-is_stored-clause-ok : goal.returns-then-is_stored-clause-ok
returns-then-is_stored-clause-ok c =
    let split = rw c.in_default.is at c.loop-next.invariant in
    rw (split.stored c.if-is_stored.true) (HasUnits-from_split c.args.text.now c.loop-next.is_stored c.loop-next.units.items split)

pub returns-clause-err : goal.returns-clause-err
returns-clause-err c =
    let split = rw c.in_default.is at c.loop-next.invariant in
    (split.found, HasUnits-from_split c.args.text.now c.loop-next.is_stored c.loop-next.units.items split)
