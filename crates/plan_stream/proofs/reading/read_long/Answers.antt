use Rattle.plan_stream.proofs.FrontTexts.{front-joined}
use Rattle.plan_stream.proofs.reading.read_long.Goals as goal

pub returns-in_ok-join-in-Ok : goal.returns-in_ok-join-in-Ok
returns-in_ok-join-in-Ok c =
    front-joined c.args.text.now c.in-Ok.nals.items c.in-Ok.ensures.found c.read_unit.result
    (rw (c.deref-in-Ok.ensures.value, c.in_ok-join-in-Ok.ensures, c.deref.ensures.value) at c.read_unit.ensures.read)

pub returns-in_default : goal.returns-in_default
returns-in_default c = λ units has. c.in_default.not-Memory (c.in-Err.ensures.only units has).1
