use Rattle.script_run.proofs.shared.threads.run_beside.Goals as goal

-- what the scope's closure ensures; the writer that it hands back is the one that was lent
pub returns-clause-ok : goal.returns-clause-ok
returns-clause-ok g c = let ensured = c.scoped-seat.ensures.1 in rw (c.writer-1.given.1 ensured.1.1) ensured.0

pub returns-clause-stops : goal.returns-clause-stops
returns-clause-stops g c = let ensured = c.scoped-seat.ensures.1 in rw (c.writer-1.given.1 ensured.1.1) ensured.1.0
