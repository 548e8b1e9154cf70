use Rattle.std.proofs.Common.{refl}
use Rattle.std.proofs.lemmas.Result.{err_from_is_err_and}
use Rattle.slice_header.proofs.Fronts.{front_missing}
use Rattle.slice_header.proofs.front.front_of.Goals as goal

pub returns-in_err-after_first : goal.returns-in_err-after_first
returns-in_err-after_first c =
    let p = err_from_is_err_and c.from_residual.result c.from_residual.ensures.1 in
    let missing = c.in_err-after_first.ensures in
    rw (p.1, p.2, missing.0, missing.1, front_missing) refl
