use Rattle.std.proofs.lemmas.Result.{err_from_is_err_and}
use Rattle.request_core.proofs.Pictures.{picture-is, ends-followed, ends-counted, ends-listed, ends-marked}
use Rattle.request_core.proofs.stepping.plan_first.Goals as goal

pub returns-in_err-follow : goal.returns-in_err-follow
returns-in_err-follow c =
    let p = err_from_is_err_and c.from_residual.result c.from_residual.ensures.1 in
    rw (p.1, p.2) (ends-followed c.args.state.now c.args.id c.args.first.now c.args.slices.now _ c.in_err-follow.ensures)

pub returns-in_err-counts : goal.returns-in_err-counts
returns-in_err-counts c =
    let p = err_from_is_err_and c.from_residual-in_err-counts.result c.from_residual-in_err-counts.ensures.1 in
    rw (p.1, p.2) (ends-counted c.args.state.now c.args.id c.args.first.now c.args.slices.now _ c.in_ok-follow.ensures c.in_err-counts.ensures.value)

pub returns-in_err-listed : goal.returns-in_err-listed
returns-in_err-listed c =
    let p = err_from_is_err_and c.from_residual-in_err-listed.result c.from_residual-in_err-listed.ensures.1 in
    rw (p.1, p.2) (ends-listed c.args.state.now c.args.id c.args.first.now c.args.slices.now _ c.in_ok-counts.counts c.in_ok-follow.ensures c.in_ok-counts.ensures.value c.in_err-listed.ensures)

pub returns-in_err-marks : goal.returns-in_err-marks
returns-in_err-marks c =
    let p = err_from_is_err_and c.from_residual-in_err-marks.result c.from_residual-in_err-marks.ensures.1 in
    rw (p.1, p.2) (ends-marked c.args.state.now c.args.id c.args.first.now c.args.slices.now _ c.in_ok-counts.counts c.in_ok-listed.listed.items c.in_ok-follow.ensures c.in_ok-counts.ensures.value c.in_ok-listed.ensures c.in_err-marks.ensures)

pub returns : goal.returns
returns c =
    rw (c.in_ok-after.ensures, c.make_picture-picture.ensures) (picture-is c.args.state.now c.args.id c.args.first.now c.args.slices.now c.in_ok-counts.counts c.in_ok-listed.listed.items c.in_ok-marks.marks
    c.in_ok-follow.ensures c.in_ok-counts.ensures.value c.in_ok-listed.ensures c.in_ok-marks.ensures)
