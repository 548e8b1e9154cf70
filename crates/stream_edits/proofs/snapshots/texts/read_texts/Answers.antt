use Rattle.std.proofs.Common.{take, refl, arith}
use Rattle.std.proofs.lemmas.List.{take_more}
use Rattle.std.proofs.lemmas.Result.{err_from_is_err_and}
use Rattle.stream_edits.proofs.ReadAs.{AreReadAs-push, refused_at}
use Rattle.stream_edits.proofs.snapshots.texts.read_texts.Goals as goal

pub returns-in_err-read_text-clause-err : goal.returns-in_err-read_text-clause-err
returns-in_err-read_text-clause-err c =
    let p = err_from_is_err_and c.from_residual-in_err-read_text.result c.from_residual-in_err-read_text.ensures.1 in
    rw (p.1, p.2)
    (refused_at c.args.texts.now c.loop-text.text-index c.text-item.result c.in_err-read_text.field-0.0 (omega arith) c.text-item.is
    c.in_err-read_text.ensures.err)

pub loop-text-preserved : goal.loop-text-preserved
loop-text-preserved c =
    let loop = c.loop-text in
    rw (c.in_ok-push.ensures.items, take_more c.args.texts.now loop.text-index c.text-item.result (omega arith), ← c.text-item.is)
    (AreReadAs-push (take loop.text-index c.args.texts.now) loop.units.items c.text-item.result
    (c.text-item.result.0, c.in_ok-read_text.field-0) loop.invariant refl c.in_ok-read_text.ensures.ok)
