use Rattle.std.proofs.lemmas.Result.{err_from_is_err_and}
use Rattle.param_sets.proofs.PpsLaws.{pps_answer, pps_empty}
use Rattle.param_sets.proofs.pic_parameter_set.pps_of.Goals as goal

pub returns : goal.returns
returns c =
    let read = rw c.in_ok-bits.ensures.found at c.pic_parameter_set_rbsp.ensures in
    pps_answer c.args.payload.now read.0 c.pic_parameter_set_rbsp.result c.pic_parameter_set_rbsp.new.bits read.1

pub returns-in_err-bits : goal.returns-in_err-bits
returns-in_err-bits c =
    let p = err_from_is_err_and c.from_residual.result c.from_residual.ensures.1 in
    rw (p.1, p.2, c.in_err-bits.ensures.empty.0) (pps_empty c.args.payload.now c.in_err-bits.ensures.empty.1)
