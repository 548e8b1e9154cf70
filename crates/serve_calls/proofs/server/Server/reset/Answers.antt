use Rattle.std.proofs.Common.{ap}
use Rattle.stand_in_session.specs.Machines.{Machine}
use Rattle.serve_calls.proofs.server.Server.reset.Goals as goal

pub begin_anew-requires : goal.begin_anew-requires
begin_anew-requires g c = ap (λ (machine : Machine). machine.jobs_out) c.in-Ok.ensures.1
