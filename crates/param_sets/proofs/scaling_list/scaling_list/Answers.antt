use Rattle.std.proofs.Common.{◌∙◌, ◌++◌, ◌∷◌, [], Some, replicate, length}
use Rattle.std.proofs.lemmas.Result.{err_from_is_err_and}
use Rattle.expgolomb.specs.TableReading.{rows_at}
use Rattle.param_sets.specs.Scaling.{take_list, present_row, delta_row}
use Rattle.param_sets.proofs.ListRows.{list_there, list_absent, list_stop}
use Rattle.param_sets.proofs.Refusals.{refused, refused_by}
use Rattle.param_sets.proofs.scaling_list.scaling_list.Goals as goal

pub returns-in_err-flag : goal.returns-in_err-flag
returns-in_err-flag c lists =
    let x = err_from_is_err_and c.from_residual.result c.from_residual.ensures.1 in
    let e = c.in_err-flag.field-0.0 in
    let p = c.args.bits.now in
    rw (x.1, x.2) (refused e (rows_at take_list (present_row ∷ replicate c.args.size (delta_row (length lists))) lists p) (list_stop lists c.args.size p e c.in_err-flag.ensures.exact))

pub returns-in_err-deltas : goal.returns-in_err-deltas
returns-in_err-deltas c lists =
    let x = err_from_is_err_and c.from_residual-in_err-deltas.result c.from_residual-in_err-deltas.ensures.1 in
    let e = c.in_err-deltas.field-0.0 in
    let p = c.args.bits.now in
    let rows = replicate c.args.size (delta_row (length lists)) in
    let there = rw c.if-branch.true at c.in_ok-flag.ensures.exact in
    rw (x.1, x.2) (refused_by e (rows_at take_list rows (lists ++ Some [] ∷ []) c.flag.new.bits) (rows_at take_list (present_row ∷ rows) lists p) (λ h. list_there lists c.args.size p c.flag.new.bits there ∙ h) (c.in_err-deltas.ensures lists))

pub returns-in_ok-deltas : goal.returns-in_ok-deltas
returns-in_ok-deltas c lists =
    let there = rw c.if-branch.true at c.in_ok-flag.ensures.exact in
    list_there lists c.args.size c.args.bits.now c.flag.new.bits there ∙ c.in_ok-deltas.ensures lists

pub returns-else-branch : goal.returns-else-branch
returns-else-branch c lists =
    let absent = rw c.if-branch.false at c.in_ok-flag.ensures.exact in
    list_absent lists c.args.size c.args.bits.now c.flag.new.bits absent
