-- The denominators, and the weights of both lists.
use Rattle.std.proofs.Common.{refl}
use Rattle.std.proofs.lemmas.Result.{err_from_is_err_and}
use Rattle.slice_header.specs.PredWeightTableSyntax.{entries_syntax, weight_syntax}
use Rattle.expgolomb.specs.Structures.{syntax_at}
use Rattle.slice_header.proofs.Refusals.{refuses_is, refuses_all}
use Rattle.expgolomb.proofs.Structures.{followed_by_at}
use Rattle.slice_header.proofs.weight_syntax.pred_weight_table.Goals as goal

pub returns-in_err-denominators-clause-exact : goal.returns-in_err-denominators-clause-exact
unfolding weight_syntax syntax_at
returns-in_err-denominators-clause-exact c =
    let p = err_from_is_err_and c.from_residual.result c.from_residual.ensures.1 in
    let stop = c.in_err-denominators.ensures.exact in
    rw (p.1, p.2) (refuses_is c.in_err-denominators.field-0.0 (syntax_at (weight_syntax c.args.has_chroma c.args.active_l0 c.args.active_l1) c.args.bits.now) (rw stop refl))

pub returns-in_err-weights_l0-clause-exact : goal.returns-in_err-weights_l0-clause-exact
unfolding weight_syntax syntax_at
returns-in_err-weights_l0-clause-exact c =
    let p = err_from_is_err_and c.from_residual-in_err-weights_l0.result c.from_residual-in_err-weights_l0.ensures.1 in
    rw (p.1, p.2) (refuses_all c.in_err-weights_l0.field-0.0 (syntax_at (entries_syntax c.args.has_chroma c.in_ok-denominators.denominators c.args.active_l0) c.read_denominators.new.bits) (syntax_at (weight_syntax c.args.has_chroma c.args.active_l0 c.args.active_l1) c.args.bits.now)
    (λ d is. rw (c.in_ok-denominators.ensures.exact, followed_by_at, is) refl) c.in_err-weights_l0.ensures.exact)

pub returns-in_err-weights_l1-clause-exact : goal.returns-in_err-weights_l1-clause-exact
unfolding weight_syntax syntax_at
returns-in_err-weights_l1-clause-exact c =
    let p = err_from_is_err_and c.from_residual-in_err-weights_l1.result c.from_residual-in_err-weights_l1.ensures.1 in
    rw (p.1, p.2) (refuses_all c.in_err-weights_l1.field-0.0 (syntax_at (entries_syntax c.args.has_chroma c.in_ok-denominators.denominators c.args.active_l1) c.weights.new.bits) (syntax_at (weight_syntax c.args.has_chroma c.args.active_l0 c.args.active_l1) c.args.bits.now)
    (λ d is. rw (c.in_ok-denominators.ensures.exact, followed_by_at, c.in_ok-weights_l0.ensures.exact, followed_by_at, is) refl) c.in_err-weights_l1.ensures.exact)

pub returns-clause-exact : goal.returns-clause-exact
unfolding weight_syntax syntax_at
returns-clause-exact c =
    rw (c.in_ok-denominators.ensures.exact, followed_by_at, c.in_ok-weights_l0.ensures.exact, followed_by_at, c.in_ok-weights_l1.ensures.exact) refl
