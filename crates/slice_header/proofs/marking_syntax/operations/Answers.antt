-- Operation by operation, up to the end.
use Rattle.std.proofs.Common.{refl, ◌≡◌, ◌+◌, ◌-◌, suc, [], ◌∷◌, length, length-append, ap, sym, ◌∙◌, arith}
use Rattle.std.proofs.lemmas.Result.{err_from_is_err_and}
use Rattle.slice_header.specs.DecRefPicMarkingSyntax.{operation_table, operations_syntax}
use Rattle.expgolomb.specs.Structures.{syntax_at, ended}
use Rattle.slice_header.proofs.Refusals.{refuses_is}
use Rattle.expgolomb.proofs.Structures.{ended_step, ended_end, ended_stop, ended_full, ended_full_stop}
use Rattle.slice_header.proofs.marking_syntax.operations.Goals as goal

pub returns-in_err-operation-clause-exact : goal.returns-in_err-operation-clause-exact
returns-in_err-operation-clause-exact c =
    let p = err_from_is_err_and c.from_residual.result c.from_residual.ensures.1 in
    let more : (64 - c.loop.counter) ≡ suc (64 - (c.loop.counter + 1)) = omega arith in
    rw (p.1, p.2) (refuses_is c.in_err-operation.field-0.0 (syntax_at operations_syntax c.args.bits.now)
    (c.loop.invariant.so_far ∙ ended_stop operation_table (64 - c.loop.counter) c.loop.operations c.loop.bits (64 - (c.loop.counter + 1)) c.in_err-operation.field-0.0 more c.in_err-operation.ensures.exact))

pub returns-in-None-clause-exact : goal.returns-in-None-clause-exact
returns-in-None-clause-exact c =
    let more : (64 - c.loop.counter) ≡ suc (64 - (c.loop.counter + 1)) = omega arith in
    c.loop.invariant.so_far ∙ ended_end operation_table (64 - c.loop.counter) c.loop.operations c.loop.bits (64 - (c.loop.counter + 1)) c.operation.new.bits more (rw c.in-None.is at c.in_ok-operation.ensures.exact)

pub loop-preserved : goal.loop-preserved
loop-preserved c =
    let more : (64 - c.loop.counter) ≡ suc (64 - (c.loop.counter + 1)) = omega arith in
    record {
      so_far =
          c.loop.invariant.so_far
          ∙ (ended_step operation_table (64 - c.loop.counter) c.loop.operations c.loop.bits (64 - (c.loop.counter + 1)) c.in-Some.operation c.operation.new.bits more (rw c.in-Some.is at c.in_ok-operation.ensures.exact)
          ∙ ap (λ items. syntax_at (ended operation_table (64 - (c.loop.counter + 1)) items) c.operation.new.bits) (sym c.in_ok-push-in-Some.ensures.ok));
      few =
          let longer : length c.push.new.self ≡ length c.loop.operations + 1 =
          ap length c.in_ok-push-in-Some.ensures.ok ∙ length-append c.loop.operations (c.in-Some.operation ∷ []) in
          omega (arith, c.loop.invariant.few, longer);
      near = omega (arith, c.in_ok-operation.ensures.near);
    }

pub returns-in_err-_end-clause-exact : goal.returns-in_err-_end-clause-exact
returns-in_err-_end-clause-exact c =
    let p = err_from_is_err_and c.from_residual-in_err-_end.result c.from_residual-in_err-_end.ensures.1 in
    let none : (64 - c.loop.counter) ≡ 0 = omega arith in
    rw (p.1, p.2) (refuses_is c.in_err-_end.field-0.0 (syntax_at operations_syntax c.args.bits.now)
    (c.loop.invariant.so_far ∙ ended_full_stop operation_table (64 - c.loop.counter) c.loop.operations c.loop.bits c.in_err-_end.field-0.0 none c.in_err-_end.ensures.exact))

pub returns-clause-exact : goal.returns-clause-exact
returns-clause-exact c =
    let none : (64 - c.loop.counter) ≡ 0 = omega arith in
    c.loop.invariant.so_far ∙ ended_full operation_table (64 - c.loop.counter) c.loop.operations c.loop.bits c.in_ok-_end._end c.operation-2.new.bits none c.in_ok-_end.ensures.exact

pub loop-init : goal.loop-init
unfolding operations_syntax
loop-init c = record { so_far = rw c.new-operations.ensures refl; few = rw c.new-operations.ensures (omega arith); near = omega arith }
