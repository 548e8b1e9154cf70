-- A text without NAL units is refused as it is.
use Rattle.std.proofs.lemmas.Result.{err_from_is_err_and}
use Rattle.access_unit.proofs.reading.read_alone.Goals as goal

pub returns-in_err-nals : goal.returns-in_err-nals
returns-in_err-nals c =
    let p = err_from_is_err_and c.from_residual.result c.from_residual.ensures.1 in
    rw (p.1, p.2) (c.in_err-nals.ensures.err c.args.limit)
