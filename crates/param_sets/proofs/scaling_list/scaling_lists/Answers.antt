use Rattle.std.proofs.Common.{◌+◌, ◌-◌, ◌∙◌, ◌∷◌, [], length, length-append, ap, arith}
use Rattle.std.proofs.lemmas.Result.{err_from_is_err_and}
use Rattle.expgolomb.specs.TableReading.{rows_at}
use Rattle.param_sets.specs.Scaling.{take_list, list_rows}
use Rattle.param_sets.proofs.ListRows.{lists_further, lists_stop, lists_done}
use Rattle.param_sets.proofs.Refusals.{refused_by}
use Rattle.param_sets.proofs.scaling_list.scaling_lists.Goals as goal

pub returns-in_err-list : goal.returns-in_err-list
returns-in_err-list c =
    let x = err_from_is_err_and c.from_residual.result c.from_residual.ensures.1 in
    let e = c.in_err-list.field-0.0 in
    let w = c.loop-j.invariant in
    let j = c.loop-j.j in
    let fault = lists_stop c.loop-j.lists e j c.size_of_list.result (c.args.count - (j + 1)) (c.args.count - j) c.loop-j.bits w.count c.size_of_list.ensures (omega arith) (c.in_err-list.ensures c.loop-j.lists) in
    rw (x.1, x.2) (refused_by e (rows_at take_list (list_rows j (c.args.count - j)) c.loop-j.lists c.loop-j.bits) (rows_at take_list (list_rows 0 c.args.count) [] c.args.bits.now) (λ h. w.whole ∙ h) fault)

pub loop-j-preserved : goal.loop-j-preserved
loop-j-preserved c =
    let w = c.loop-j.invariant in
    let j = c.loop-j.j in
    let pushed = c.in_ok-push.ensures.pushed in
    record {
      count = omega (arith, ap length pushed, length-append c.loop-j.lists (c.in_ok-list.list ∷ []), w.count);
      whole = w.whole ∙ lists_further c.loop-j.lists c.push.new.self c.in_ok-list.list j c.size_of_list.result (c.args.count - (j + 1)) (c.args.count - j) c.loop-j.bits c.scaling_list.new.bits w.count c.size_of_list.ensures (omega arith) (c.in_ok-list.ensures c.loop-j.lists) pushed;
    }

pub returns : goal.returns
returns c =
    c.loop-j.invariant.whole ∙ lists_done c.loop-j.lists c.loop-j.j (c.args.count - c.loop-j.j) c.loop-j.bits (omega arith)
