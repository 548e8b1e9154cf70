use Rattle.std.proofs.Common.{refl}
use Rattle.std.proofs.lemmas.Result.{err_from_is_err_and}
use Rattle.slice_header.specs.SliceHeaderSyntax.{ending_syntax}
use Rattle.slice_header.specs.DecRefPicMarkingSyntax.{marking_syntax}
use Rattle.expgolomb.specs.Structures.{syntax_at}
use Rattle.slice_header.proofs.Refusals.{refuses_is, refuses_all}
use Rattle.expgolomb.proofs.Structures.{followed_by_at}
use Rattle.slice_header.proofs.headers.ending_part.Goals as goal

pub returns-in_err-marking : goal.returns-in_err-marking
unfolding ending_syntax syntax_at
returns-in_err-marking c =
    let p = err_from_is_err_and c.from_residual.result c.from_residual.ensures.1 in
    rw (p.1, p.2) (refuses_all c.in_err-marking.field-0.0 (syntax_at (marking_syntax c.args.is_reference c.args.is_idr) c.args.bits.now) (syntax_at (ending_syntax c.args.is_reference c.args.is_idr c.args.slice_type c.args.pps.now) c.args.bits.now)
    (λ d is. rw (followed_by_at, is) refl) c.in_err-marking.ensures.exact)

pub returns-in_err-coding : goal.returns-in_err-coding
unfolding ending_syntax syntax_at
returns-in_err-coding c =
    let p = err_from_is_err_and c.from_residual-in_err-coding.result c.from_residual-in_err-coding.ensures.1 in
    rw (p.1, p.2) (refuses_is c.in_err-coding.field-0.0 (syntax_at (ending_syntax c.args.is_reference c.args.is_idr c.args.slice_type c.args.pps.now) c.args.bits.now)
    (rw (followed_by_at, c.in_ok-marking.ensures.exact, c.in_err-coding.ensures.exact) refl))

pub returns-in_err-deblocking : goal.returns-in_err-deblocking
unfolding ending_syntax syntax_at
returns-in_err-deblocking c =
    let p = err_from_is_err_and c.from_residual-in_err-deblocking.result c.from_residual-in_err-deblocking.ensures.1 in
    rw (p.1, p.2) (refuses_is c.in_err-deblocking.field-0.0 (syntax_at (ending_syntax c.args.is_reference c.args.is_idr c.args.slice_type c.args.pps.now) c.args.bits.now)
    (rw (followed_by_at, c.in_ok-marking.ensures.exact, c.in_ok-coding.ensures.exact, c.in_err-deblocking.ensures.exact) refl))

pub returns : goal.returns
unfolding ending_syntax syntax_at
returns c =
    rw (followed_by_at, c.in_ok-marking.ensures.exact, c.in_ok-coding.ensures.exact, c.in_ok-deblocking.ensures.exact, c.saturating_sub.ensures, c.place.ensures, c.place-marking_from.ensures, c.place-marking_to.ensures) refl
