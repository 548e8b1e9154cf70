-- The flags, and the operations where there are some.
use Rattle.std.proofs.Common.{refl}
use Rattle.std.proofs.lemmas.Result.{err_from_is_err_and}
use Rattle.slice_header.specs.DecRefPicMarkingSyntax.{operations_syntax, marking_syntax}
use Rattle.expgolomb.specs.Structures.{syntax_at}
use Rattle.slice_header.proofs.Refusals.{refuses_is, refuses_all}
use Rattle.expgolomb.proofs.Structures.{followed_by_at}
use Rattle.slice_header.proofs.marking_syntax.dec_ref_pic_marking.Goals as goal

pub returns-in_err-flags-clause-exact : goal.returns-in_err-flags-clause-exact
unfolding marking_syntax syntax_at
returns-in_err-flags-clause-exact c =
    let p = err_from_is_err_and c.from_residual.result c.from_residual.ensures.1 in
    let stop = c.in_err-flags.ensures.exact in
    rw (p.1, p.2) (refuses_is c.in_err-flags.field-0.0 (syntax_at (marking_syntax c.args.is_reference c.args.is_idr) c.args.bits.now) (rw stop refl))

pub returns-in_err-operations-clause-exact : goal.returns-in_err-operations-clause-exact
unfolding marking_syntax syntax_at
returns-in_err-operations-clause-exact c =
    let p = err_from_is_err_and c.from_residual-in_err-operations.result c.from_residual-in_err-operations.ensures.1 in
    rw (p.1, p.2) (refuses_all c.in_err-operations.field-0.0 (syntax_at operations_syntax c.marking_flags.new.bits) (syntax_at (marking_syntax c.args.is_reference c.args.is_idr) c.args.bits.now)
    (λ d is. rw (c.in_ok-flags.ensures.exact, c.if-is_idr.false, c.if-flags.true, followed_by_at, is) refl) c.in_err-operations.ensures.exact)

pub returns-then-is_idr-clause-exact : goal.returns-then-is_idr-clause-exact
unfolding marking_syntax syntax_at
returns-then-is_idr-clause-exact c = rw (c.in_ok-flags.ensures.exact, c.if-is_idr.true) refl

pub returns-in_ok-operations-clause-exact : goal.returns-in_ok-operations-clause-exact
unfolding marking_syntax syntax_at
returns-in_ok-operations-clause-exact c = rw (c.in_ok-flags.ensures.exact, c.if-is_idr.false, c.if-flags.true, followed_by_at, c.in_ok-operations.ensures.exact) refl

pub returns-else-flags-clause-exact : goal.returns-else-flags-clause-exact
unfolding marking_syntax syntax_at
returns-else-flags-clause-exact c = rw (c.in_ok-flags.ensures.exact, c.if-is_idr.false, c.if-flags.false) refl
