use Rattle.std.proofs.Common.{◌≡◌, true, false}
use Rattle.std.proofs.lemmas.Result.{err_from_is_err_and}
use Rattle.param_sets.specs.PpsSyntax.{so_far, has_matrix}
use Rattle.h264_types.specs.declared.param_sets.pps.Pps.{Pps}
use Rattle.param_sets.proofs.PpsSections.{lists_absent, lists_read, lists_fault}
use Rattle.param_sets.proofs.pic_parameter_set.pic_scaling_lists.Goals as goal

absent : (s : Pps) → s.pic_scaling_matrix_present_flag ≡ false → has_matrix (so_far true s) ≡ false
absent s flag = flag

pub returns-in_err-pps : goal.returns-in_err-pps
returns-in_err-pps c =
    let x = err_from_is_err_and c.from_residual.result c.from_residual.ensures.1 in
    let fault = rw c.list_count.ensures at c.in_err-pps.ensures in
    rw (x.1, x.2) (lists_fault c.args.pps.now c.in_err-pps.field-0.0 c.args.bits.now c.if-pps.true c.requires fault)

pub returns-in_ok-pps : goal.returns-in_ok-pps
returns-in_ok-pps c =
    let read = rw c.list_count.ensures at c.in_ok-pps.ensures in
    lists_read c.args.pps.now c.in_ok-pps.field-0 c.args.bits.now c.scaling_lists.new.bits c.if-pps.true c.requires read

pub returns-else-pps : goal.returns-else-pps
returns-else-pps c = lists_absent (so_far true c.args.pps.now) c.args.bits.now (absent c.args.pps.now c.if-pps.false)
