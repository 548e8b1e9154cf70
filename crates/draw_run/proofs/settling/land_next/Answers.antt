use Rattle.draw_run.proofs.Landed.{all-held, keeps-landed, keeps-none}
use Rattle.draw_run.proofs.settling.land_next.Goals as goal

pub returns-in_ok-finished-in-Ok-Some-clause-keeps : goal.returns-in_ok-finished-in-Ok-Some-clause-keeps
returns-in_ok-finished-in-Ok-Some-clause-keeps c =
    keeps-landed c.args.session.now c.take.new.self c.land.new.self _ c.requires (rw c.in-Ok-Some.field-0-is at c.in-Ok-Some.ensures.answers)
    c.land.result (rw c.in_ok-finished-in-Ok-Some.ensures at c.land.ensures)

pub returns-in-Ok-None-clause-keeps : goal.returns-in-Ok-None-clause-keeps
returns-in-Ok-None-clause-keeps c =
    keeps-none c.args.session.now c.take.new.self c.requires (rw c.in-Ok-None.field-0-is at c.in-Ok-None.ensures.answers)

pub returns-in-Ok-None-clause-held : goal.returns-in-Ok-None-clause-held
returns-in-Ok-None-clause-held c = λ none.
    all-held c.args.session.now c.take.new.self c.requires (rw c.in-Ok-None.field-0-is at c.in-Ok-None.ensures.answers)
    (c.in-Ok-None.ensures.waits c.in-Ok-None.field-0-is)
