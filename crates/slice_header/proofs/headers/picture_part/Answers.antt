use Rattle.std.proofs.Common.{refl}
use Rattle.std.proofs.lemmas.Result.{err_from_is_err_and}
use Rattle.slice_header.specs.SliceHeaderSyntax.{picture_syntax}
use Rattle.expgolomb.specs.Structures.{syntax_at}
use Rattle.slice_header.proofs.headers.picture_part.Goals as goal

pub returns-in_err-front-clause-exact : goal.returns-in_err-front-clause-exact
unfolding picture_syntax syntax_at
returns-in_err-front-clause-exact c =
    let p = err_from_is_err_and c.from_residual.result c.from_residual.ensures.1 in
    let stop = rw c.pic_size_in_mbs.ensures.value at c.in_err-front.ensures.exact in
    rw (p.1, p.2, stop) refl

pub returns-in_err-numbers-clause-exact : goal.returns-in_err-numbers-clause-exact
unfolding picture_syntax syntax_at
returns-in_err-numbers-clause-exact c =
    let p = err_from_is_err_and c.from_residual-in_err-numbers.result c.from_residual-in_err-numbers.ensures.1 in
    let front = rw c.pic_size_in_mbs.ensures.value at c.in_ok-front.ensures.exact in
    rw (p.1, p.2, front, c.in_err-numbers.ensures.exact) refl

pub returns-in_err-orders-clause-exact : goal.returns-in_err-orders-clause-exact
unfolding picture_syntax syntax_at
returns-in_err-orders-clause-exact c =
    let p = err_from_is_err_and c.from_residual-in_err-orders.result c.from_residual-in_err-orders.ensures.1 in
    let front = rw c.pic_size_in_mbs.ensures.value at c.in_ok-front.ensures.exact in
    rw (p.1, p.2, front, c.in_ok-numbers.ensures.exact, c.in_err-orders.ensures.exact) refl

pub returns-clause-exact : goal.returns-clause-exact
unfolding picture_syntax syntax_at
returns-clause-exact c =
    let front = rw c.pic_size_in_mbs.ensures.value at c.in_ok-front.ensures.exact in
    rw (front, c.in_ok-numbers.ensures.exact, c.in_ok-orders.ensures.exact, c.saturating_sub.ensures, c.place-orders_from.ensures, c.place-orders_to.ensures) refl
