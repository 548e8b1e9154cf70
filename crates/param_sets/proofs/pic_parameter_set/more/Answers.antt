use Rattle.std.proofs.Common.{◌++◌, ◌∙◌, true, false}
use Rattle.std.proofs.lemmas.Result.{err_from_is_err_and}
use Rattle.expgolomb.specs.TableReading.{rows_at}
use Rattle.param_sets.specs.PpsSyntax.{take, so_far, transform_rows, pic_list_rows, second_offset_rows, more_rows}
use Rattle.expgolomb.proofs.Loops.{after_err}
use Rattle.param_sets.proofs.PpsSections.{more_none, more_some}
use Rattle.param_sets.proofs.Refusals.{refused}
use Rattle.param_sets.proofs.Sections.{further, stopped}
use Rattle.param_sets.proofs.pic_parameter_set.more.Goals as goal

pub returns-in_err-transform : goal.returns-in_err-transform
returns-in_err-transform c =
    let x = err_from_is_err_and c.from_residual.result c.from_residual.ensures.1 in
    let s = so_far false c.args.pps.now in
    let p = c.args.bits.now in
    let e = c.in_err-transform.field-0.0 in
    (false, rw (x.1, x.2) (refused e (rows_at take more_rows s p) (after_err take transform_rows (pic_list_rows ++ second_offset_rows) s p e c.in_err-transform.ensures.exact)))

pub pic_scaling_lists-requires : goal.pic_scaling_lists-requires
pic_scaling_lists-requires c = c.transform.ensures.same ∙ c.requires

pub returns-in_err-pic_scaling_lists : goal.returns-in_err-pic_scaling_lists
returns-in_err-pic_scaling_lists c =
    let x = err_from_is_err_and c.from_residual-in_err-pic_scaling_lists.result c.from_residual-in_err-pic_scaling_lists.ensures.1 in
    let whole = rows_at take more_rows (so_far false c.args.pps.now) c.args.bits.now in
    let t = c.transform.new.pps in
    let q = c.transform.new.bits in
    let left = more_some c.args.pps.now t c.args.bits.now q c.in_ok-transform.field-0 c.in_ok-transform.ensures.exact c.if-branch.true in
    (true, rw (x.1, x.2) (stopped take pic_list_rows second_offset_rows whole (so_far true t) q c.in_err-pic_scaling_lists.field-0.0 left c.in_err-pic_scaling_lists.ensures))

pub returns-in_err-second_offset : goal.returns-in_err-second_offset
returns-in_err-second_offset c =
    let x = err_from_is_err_and c.from_residual-in_err-second_offset.result c.from_residual-in_err-second_offset.ensures.1 in
    let whole = rows_at take more_rows (so_far false c.args.pps.now) c.args.bits.now in
    let t = c.transform.new.pps in
    let q = c.transform.new.bits in
    let left = more_some c.args.pps.now t c.args.bits.now q c.in_ok-transform.field-0 c.in_ok-transform.ensures.exact c.if-branch.true in
    let last = further take pic_list_rows second_offset_rows whole (so_far true t) (so_far true c.pic_scaling_lists.new.pps) q c.pic_scaling_lists.new.bits left c.in_ok-pic_scaling_lists.ensures in
    (true, rw (x.1, x.2) (refused c.in_err-second_offset.field-0.0 whole (last ∙ c.in_err-second_offset.ensures)))

pub returns-in_ok-second_offset : goal.returns-in_ok-second_offset
returns-in_ok-second_offset c =
    let whole = rows_at take more_rows (so_far false c.args.pps.now) c.args.bits.now in
    let t = c.transform.new.pps in
    let q = c.transform.new.bits in
    let left = more_some c.args.pps.now t c.args.bits.now q c.in_ok-transform.field-0 c.in_ok-transform.ensures.exact c.if-branch.true in
    let last = further take pic_list_rows second_offset_rows whole (so_far true t) (so_far true c.pic_scaling_lists.new.pps) q c.pic_scaling_lists.new.bits left c.in_ok-pic_scaling_lists.ensures in
    (true, last ∙ c.in_ok-second_offset.ensures)

pub returns-else-branch : goal.returns-else-branch
returns-else-branch c =
    (false, more_none c.args.pps.now c.transform.new.pps c.args.bits.now c.transform.new.bits c.in_ok-transform.field-0 c.in_ok-transform.ensures.exact c.if-branch.false)
