use Rattle.std.proofs.Common.{sym, arith}
use Rattle.stream_session.proofs.Looked.{position_found}
use Rattle.stream_session.proofs.session.Session.position.Goals as goal

pub position_in-requires-clause-within : goal.position_in-requires-clause-within
position_in-requires-clause-within g c = rw (← c.self.view_is) at c.in-Some.ensures.inside

pub position_in-requires-clause-spare : goal.position_in-requires-clause-spare
position_in-requires-clause-spare g c = omega (arith, c.new-comparisons.ensures, c.self.invariant.bounded)

pub returns-in-Some : goal.returns-in-Some
returns-in-Some g c =
    let stands = sym (rw (← c.self.view_is) at c.in-Some.ensures.value) in
    rw (← c.self.view_is)
    (position_found c.self.inside.ordered.folded.stream c.args.id c.in-Some.place c.position_in.result stands
    c.position_in.ensures.position)
