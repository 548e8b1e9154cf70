use Rattle.std.proofs.lemmas.Result.{err_from_is_err_and}
use Rattle.slice_header.proofs.Fronts.{first_missing}
use Rattle.slice_header.proofs.fields.after_first.Goals as goal

pub returns-in_err-_nal_unit_header : goal.returns-in_err-_nal_unit_header
returns-in_err-_nal_unit_header c =
    let p = err_from_is_err_and c.from_residual.result c.from_residual.ensures.1 in
    let missing = first_missing c.args.payload.now c.in_err-_nal_unit_header.field-0.0 (rw c.new-bits.ensures at c.in_err-_nal_unit_header.ensures.exact.0) in
    rw (p.1, p.2, missing.0) (cc, missing.1)
