-- Entry by entry.
use Rattle.std.proofs.Common.{◌≡◌, ◌+◌, ◌-◌, suc, refl, ap, sym, ◌∙◌, arith}
use Rattle.std.proofs.lemmas.Result.{err_from_is_err_and}
use Rattle.slice_header.specs.PredWeightTableSyntax.{entry_syntax, entries_syntax}
use Rattle.expgolomb.specs.Structures.{syntax_at, counted}
use Rattle.slice_header.proofs.Refusals.{refuses_is}
use Rattle.expgolomb.proofs.Structures.{counted_step, counted_stop, counted_all}
use Rattle.slice_header.proofs.weight_syntax.weights.Goals as goal

pub loop-init : goal.loop-init
unfolding entries_syntax
loop-init c =
    let all : c.args.entries - 0 ≡ c.args.entries = omega arith in
    record { so_far = rw (all, c.new-weights.ensures) refl; near = omega arith }

pub returns-in_err-weight-clause-exact : goal.returns-in_err-weight-clause-exact
returns-in_err-weight-clause-exact c =
    let p = err_from_is_err_and c.from_residual.result c.from_residual.ensures.1 in
    let more : (c.args.entries - c.loop.counter) ≡ suc (c.args.entries - (c.loop.counter + 1)) = omega arith in
    rw (p.1, p.2) (refuses_is c.in_err-weight.field-0.0 (syntax_at (entries_syntax c.args.has_chroma c.args.denominators c.args.entries) c.args.bits.now)
    (c.loop.invariant.so_far ∙ counted_stop (entry_syntax c.args.has_chroma c.args.denominators) (c.args.entries - c.loop.counter) c.loop.weights c.loop.bits (c.args.entries - (c.loop.counter + 1)) c.in_err-weight.field-0.0 more c.in_err-weight.ensures.exact))

pub loop-preserved : goal.loop-preserved
loop-preserved c =
    let more : (c.args.entries - c.loop.counter) ≡ suc (c.args.entries - (c.loop.counter + 1)) = omega arith in
    let entry = entry_syntax c.args.has_chroma c.args.denominators in
    record {
      so_far =
          c.loop.invariant.so_far
          ∙ (counted_step entry (c.args.entries - c.loop.counter) c.loop.weights c.loop.bits (c.args.entries - (c.loop.counter + 1)) c.in_ok-weight.weight c.pred_weight.new.bits more c.in_ok-weight.ensures.exact
          ∙ ap (λ items. syntax_at (counted entry (c.args.entries - (c.loop.counter + 1)) items) c.pred_weight.new.bits) (sym c.in_ok-push.ensures.ok));
      near = omega (arith, c.in_ok-weight.ensures.near);
    }

pub returns-clause-exact : goal.returns-clause-exact
returns-clause-exact c =
    let none : (c.args.entries - c.loop.counter) ≡ 0 = omega arith in
    c.loop.invariant.so_far ∙ counted_all (entry_syntax c.args.has_chroma c.args.denominators) (c.args.entries - c.loop.counter) c.loop.weights c.loop.bits none
