use Rattle.std.proofs.Common.{refl, sym, ◌∙◌, arith}
use Rattle.std.proofs.lemmas.Result.{err_from_is_err_and}
use Rattle.mend_run.specs.declared.running.MendFault.TheVariants.{Memory}
use Rattle.mend_run.specs.Runs.{fault_of_input}
use Rattle.mend_run.proofs.Progress.{begins, breaks, memory-other, reads}
use Rattle.mend_run.proofs.Reading.{input-other}
use Rattle.mend_run.proofs.running.mend_through.Goals as goal

pub loop-input-init : goal.loop-input-init
loop-input-init g c = record {
  so_far = begins _ _ _ _ c.args.told.now c.new-mender.result c.new-held.result.items c.requires c.new-held.ensures.items c.new-mender.ensures;
}

pub returns-in_err-read_more-clause-ends : goal.returns-in_err-read_more-clause-ends
returns-in_err-read_more-clause-ends g c =
    let p = err_from_is_err_and c.from_residual-in_err-read_more.result c.from_residual-in_err-read_more.ensures.1 in
    rw (p.1, p.2) (breaks _ _ _ (fault_of_input c.in_err-read_more.field-0.0) _ c.loop-input.mender c.loop-input.held.items _ _ _ _ c.loop-input.told
    (input-other c.in_err-read_more.field-0.0) c.loop-input.invariant.so_far)

pub loop-input-smaller : goal.loop-input-smaller
loop-input-smaller g c =
    let more = c.in_ok-read_more.ensures.count c.if-branch.true in
    omega (arith, more.0, more.1)

pub returns-in_err-mend_held-clause-ends : goal.returns-in_err-mend_held-clause-ends
returns-in_err-mend_held-clause-ends g c =
    let p = err_from_is_err_and c.from_residual-in_err-mend_held.result c.from_residual-in_err-mend_held.ensures.1 in
    rw (p.1, p.2) (c.in_err-mend_held.ensures.ends _ _ _ _
    (reads _ _ _ c.loop-input.mender c.loop-input.held.items _ _ _ _ _ _ c.loop-input.told c.in_ok-read_more.ensures.left
    c.loop-input.invariant.so_far))

pub returns-clause-done : goal.returns-clause-done
returns-clause-done g c =
    c.mend_last.ensures.done _ _ _ _ (c.in_ok-read_more.ensures.end c.if-branch.false)
    (rw c.deref.ensures.value (reads _ _ _ c.loop-input.mender c.loop-input.held.items _ _ _ _ _ _ c.loop-input.told c.in_ok-read_more.ensures.left
    c.loop-input.invariant.so_far))

pub returns-clause-ends : goal.returns-clause-ends
returns-clause-ends g c =
    c.mend_last.ensures.ends _ _ _ _ (c.in_ok-read_more.ensures.end c.if-branch.false)
    (rw c.deref.ensures.value (reads _ _ _ c.loop-input.mender c.loop-input.held.items _ _ _ _ _ _ c.loop-input.told c.in_ok-read_more.ensures.left
    c.loop-input.invariant.so_far))
