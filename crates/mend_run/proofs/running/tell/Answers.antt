use Rattle.std.proofs.Common.{◌∙◌, sym}
use Rattle.console_io.proofs.Telling.{tells-after}
use Rattle.mend_run.proofs.Listening.{told-all}
use Rattle.mend_run.proofs.running.tell.Goals as goal

pub returns-then-is_ok : goal.returns-then-is_ok
returns-then-is_ok g c = λ heard said tells.
    let listens = sym c.is_ok.ensures.value ∙ c.if-is_ok.true in
    let had = told-all (g.E.Sink.refuses c.args.errors.now) heard (g.E.Write.contents c.args.errors.now) said c.args.told.now listens tells in
    let written = c.write_bytes.ensures in
    rw (sym c.as_bytes.ensures.value)
    (tells-after c.write_bytes.result _ heard _ _ said _ had written.ok written.unwritten written.refused written.fault)
