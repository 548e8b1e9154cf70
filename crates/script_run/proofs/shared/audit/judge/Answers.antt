use Rattle.script_run.proofs.shared.audit.judge.Goals as goal

pub returns-clause-ok : goal.returns-clause-ok
returns-clause-ok g c = (c.in_ok-desk.seat, c.in_ok-desk.ensures.ok, c.in_ok-end.ensures)
