use Rattle.std.proofs.Common.{◌<◌, length, arith, sym}
use Rattle.unit_printing.proofs.Appending.{as_well, more}
use Rattle.unit_printing.proofs.RequestLines.{request_lines-more}
use Rattle.unit_printing.proofs.lines.lines.put_plan.Goals as goal

pub loop-slice-preserved : goal.loop-slice-preserved
loop-slice-preserved c =
    let requests = c.as_slice-requests.result.now in
    let below : c.loop-slice.slice < length requests = omega arith in
    let item = c.index-requests-slice in
    let longer = request_lines-more c.args.id c.loop-slice.slice requests item.result below item.is in
    as_well (sym longer) (more c.loop-slice.invariant c.in_ok-put_request.ensures)
