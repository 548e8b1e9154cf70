use Rattle.std.proofs.lemmas.Result.{err_from_is_err_and}
use Rattle.param_sets.proofs.SpsLaws.{sps_answer, sps_empty}
use Rattle.param_sets.proofs.seq_parameter_set.sps_of.Goals as goal

pub returns : goal.returns
returns c =
    let read = rw c.in_ok-bits.ensures.found at c.seq_parameter_set_data.ensures in
    sps_answer c.args.payload.now c.seq_parameter_set_data.result c.seq_parameter_set_data.new.bits read

pub returns-in_err-bits : goal.returns-in_err-bits
returns-in_err-bits c =
    let p = err_from_is_err_and c.from_residual.result c.from_residual.ensures.1 in
    rw (p.1, p.2, c.in_err-bits.ensures.empty.0) (sps_empty c.args.payload.now c.in_err-bits.ensures.empty.1)
