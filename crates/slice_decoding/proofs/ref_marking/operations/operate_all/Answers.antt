use Rattle.std.proofs.Common.{◌∙◌, sym, ap}
use Rattle.std.proofs.lemmas.Result.{err_from_is_err_and}
use Rattle.slice_decoding.specs.MarksAfter.{leaves}
use Rattle.slice_decoding.proofs.Turns.{next_set, next_fault, none_left}
use Rattle.slice_decoding.proofs.StepLaws.{operates_all}
use Rattle.slice_decoding.proofs.ref_marking.operations.operate_all.Goals as goal

pub returns-in_err-operate-clause-exact : goal.returns-in_err-operate-clause-exact
returns-in_err-operate-clause-exact c =
    let p = err_from_is_err_and c.from_residual.result c.from_residual.ensures.1 in
    let faulted = sym c.operate.ensures.exact ∙ ap (λ answer. leaves answer c.operate.new.marks) c.in_err-operate.was in
    rw (p.1, p.2) (sym (c.loop-operation.invariant ∙ next_fault _ _ _ _ _ _ _ c.loop-operation-test.true faulted))

pub loop-operation-preserved : goal.loop-operation-preserved
loop-operation-preserved c =
    c.loop-operation.invariant ∙ next_set _ _ _ _ _ _ _ c.loop-operation-test.true (sym c.operate.ensures.exact ∙ ap (λ answer. leaves answer c.operate.new.marks) c.in_ok-operate.was)

pub returns-clause-exact : goal.returns-clause-exact
returns-clause-exact c = sym (c.loop-operation.invariant ∙ none_left _ _ _ _ _ c.loop-operation-test.false)

pub returns-clause-step : goal.returns-clause-step
returns-clause-step c = operates_all c.args.sps.now c.args.frame_num c.args.operations.now c.args.marks.now _ (returns-clause-exact c)

pub returns-in_err-operate-clause-step : goal.returns-in_err-operate-clause-step
returns-in_err-operate-clause-step c = operates_all c.args.sps.now c.args.frame_num c.args.operations.now c.args.marks.now _ (returns-in_err-operate-clause-exact c)
