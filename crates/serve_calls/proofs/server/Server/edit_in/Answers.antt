use Rattle.std.proofs.Common.{refl}
use Rattle.serve_calls.proofs.Remembered.{edited-in}
use Rattle.serve_calls.proofs.server.Server.edit_in.Goals as goal

pub returns-in-Ok-clause-makes : goal.returns-in-Ok-clause-makes
returns-in-Ok-clause-makes g c =
    let old = c.args.self.now in
    edited-in g.B.LendsSession.is_session old (record old { history = c.prepare.new.self }) c.edit_prepared.new.self c.args.step.now
    c.edit_prepared.new.step c.args.read c.edit_prepared.result (record { backend = refl; sums = refl; source = refl })
    c.in-Ok.ensures.same c.edit_prepared.ensures.makes
