use Rattle.std.proofs.Common.{◌<◌, length, arith}
use Rattle.std.proofs.lemmas.Option.{slice_get_within}
use Rattle.worker_jobs.proofs.Firsts.{settled_more}
use Rattle.worker_jobs.proofs.taking.are_settled.Goals as goal

pub loop-number-preserved : goal.loop-number-preserved
loop-number-preserved g c =
    settled_more g.P.Decoded.IsOf c.args.session.now c.args.numbers.now c.loop-number.number-index c.new.result
    c.show.result c.new.ensures c.show.ensures c.in_default.not-Pending c.loop-number.invariant

pub returns : goal.returns
returns g c = λ at id there.
    let within : at < length c.args.numbers.now = slice_get_within c.args.numbers.now at id there in
    c.loop-number.invariant at id (omega (arith, within, c.loop-number-test.false)) there
