use Rattle.std.proofs.lemmas.Result.{err_from_is_err_and}
use Rattle.stream_edits.proofs.ReadAs.{refused_text}
use Rattle.stream_edits.proofs.snapshots.texts.read_text.Goals as goal

pub returns-in_err-unit-clause-err : goal.returns-in_err-unit-clause-err
returns-in_err-unit-clause-err c =
    let p = err_from_is_err_and c.from_residual.result c.from_residual.ensures.1 in
    rw (p.1, p.2)
    (refused_text c.args.text.now c.in_err-unit.field-0.0 (λ unit accepted. (c.in_err-unit.ensures.only unit accepted).1))
