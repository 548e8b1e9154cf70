-- The answer is that of the text's length, of its want of NAL units, or of the NAL units.
use Rattle.std.proofs.lemmas.Result.{err_from_is_err_and}
use Rattle.access_unit.specs.Answers.{IsReadAs}
use Rattle.access_unit.proofs.Texts.{IsReadAs-units, only_answer}
use Rattle.access_unit.proofs.unit.read_shared.Goals as goal

pub returns-in_err-nals-clause-only : goal.returns-in_err-nals-clause-only
returns-in_err-nals-clause-only c = λ units accepted.
    let p = err_from_is_err_and c.from_residual.result c.from_residual.ensures.1 in
    let read : IsReadAs c.args.text.now c.from_residual.result = rw (p.1, p.2) (rw c.as_slice.ensures at c.in_err-nals.ensures.err) in
    only_answer _ units accepted _ read

pub returns-clause-read : goal.returns-clause-read
returns-clause-read c =
    let of = rw (← c.deref.ensures.value, c.as_slice.ensures) at c.in_ok-nals.ensures.ok in
    IsReadAs-units _ _ of.has of.short _ c.unit_of.ensures.ok c.unit_of.ensures.err

pub returns-clause-only : goal.returns-clause-only
returns-clause-only c = λ units accepted.
    let of = rw (← c.deref.ensures.value, c.as_slice.ensures) at c.in_ok-nals.ensures.ok in
    only_answer _ units accepted _ (IsReadAs-units _ _ of.has of.short _ c.unit_of.ensures.ok c.unit_of.ensures.err)
