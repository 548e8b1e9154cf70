use Rattle.std.proofs.Common.{refl}
use Rattle.std.proofs.lemmas.Result.{err_from_is_err_and}
use Rattle.slice_header.proofs.Fronts.{type_missing}
use Rattle.slice_header.proofs.front.type_of.Goals as goal

pub returns-in_err-after_first : goal.returns-in_err-after_first
returns-in_err-after_first c =
    let p = err_from_is_err_and c.from_residual.result c.from_residual.ensures.1 in
    let missing = c.in_err-after_first.ensures in
    rw (p.1, missing.1, type_missing) refl
