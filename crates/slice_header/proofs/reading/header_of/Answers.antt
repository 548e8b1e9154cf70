use Rattle.std.proofs.lemmas.Result.{err_from_is_err_and}
use Rattle.std.proofs.Common.{refl}
use Rattle.slice_header.proofs.HeaderLaws.{header_missing}
use Rattle.slice_header.proofs.reading.header_of.Goals as goal

pub returns-in_err-bits : goal.returns-in_err-bits
returns-in_err-bits c =
    let p = err_from_is_err_and c.from_residual.result c.from_residual.ensures.1 in
    let missing = c.in_err-bits.ensures in
    rw (p.1, p.2, missing.0, missing.1, header_missing) refl
