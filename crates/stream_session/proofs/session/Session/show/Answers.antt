use Rattle.std.proofs.Common.{sym}
use Rattle.stream_session.proofs.Placed.{found}
use Rattle.stream_session.proofs.session.Session.show.Goals as goal

pub returns-in-Some : goal.returns-in-Some
returns-in-Some g c =
    c.show_at.ensures c.args.id (found _ c.args.id c.in-Some.place (sym c.in-Some.ensures.value))
