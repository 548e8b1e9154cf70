use Rattle.std.proofs.Common.{inr, refl}
use Rattle.serve_calls.proofs.Recorded.{none-remembered}
use Rattle.serve_calls.proofs.server.Server.load_text.Goals as goal

pub returns-in-Ok-clause-loads : goal.returns-in-Ok-clause-loads
returns-in-Ok-clause-loads g c = rw c.in-Ok.ensures at c.load_stream.ensures.loads

pub returns-in-Err-clause-recorded : goal.returns-in-Err-clause-recorded
returns-in-Err-clause-recorded g c = inr (refl, none-remembered c.in-Err.failure c.in-Err.ensures, λ steps is. is)

pub returns-in-Ok-clause-recorded : goal.returns-in-Ok-clause-recorded
returns-in-Ok-clause-recorded g c = rw c.in-Ok.ensures at c.load_stream.ensures.recorded
