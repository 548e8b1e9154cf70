use Rattle.std.proofs.Common.{◌+◌, sym, ◌∙◌, ap, arith}
use Rattle.std.proofs.lemmas.Result.{err_from_is_err_and}
use Rattle.expgolomb.specs.Reading.{fixed_at, before}
use Rattle.expgolomb.proofs.ExpGolomb.{read_after, successor_is}
use Rattle.expgolomb.proofs.bits.Bits.ue_code.Goals as goal

pub returns-in_err-zeros-clause-exact : goal.returns-in_err-zeros-clause-exact
returns-in_err-zeros-clause-exact c =
    let p = err_from_is_err_and c.from_residual.result c.from_residual.ensures.1 in rw (p.1, p.2) (sym c.in_err-zeros.ensures)

pub returns-in_err-successor-clause-exact : goal.returns-in_err-successor-clause-exact
returns-in_err-successor-clause-exact c =
    let p = err_from_is_err_and c.from_residual-in_err-successor.result c.from_residual-in_err-successor.ensures.1 in
    let n = c.in_ok-zeros.zeros in
    let read = ap (fixed_at (n + 1)) (sym c.ahead.ensures) ∙ (sym c.fixed_code.ensures ∙ c.in_err-successor.was) in
    rw (p.1, p.2) (sym (read_after c.args.self.now n c.in_ok-zeros.ensures ∙ ap before read))

pub overflow_sub-result : goal.overflow_sub-result
overflow_sub-result c =
    let n = c.in_ok-zeros.zeros in
    let read = ap (fixed_at (n + 1)) (sym c.ahead.ensures) ∙ (sym c.fixed_code.ensures ∙ c.in_ok-successor.was) in
    (successor_is c.args.self.now n (c.in_ok-successor.successor, c.in_ok-successor.after) c.in_ok-zeros.ensures read).0

pub returns : goal.returns
returns c =
    let n = c.in_ok-zeros.zeros in
    let read = ap (fixed_at (n + 1)) (sym c.ahead.ensures) ∙ (sym c.fixed_code.ensures ∙ c.in_ok-successor.was) in
    let fits = successor_is c.args.self.now n (c.in_ok-successor.successor, c.in_ok-successor.after) c.in_ok-zeros.ensures read in
    record {
      exact = sym (read_after c.args.self.now n c.in_ok-zeros.ensures ∙ ap before read);
      below = omega (arith, fits.0, fits.1);
    }
