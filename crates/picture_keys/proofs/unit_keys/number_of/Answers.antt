use Rattle.picture_keys.proofs.Numbering.{node_live}
use Rattle.picture_keys.proofs.Following.{has_key}
use Rattle.picture_keys.proofs.unit_keys.number_of.Goals as goal

pub intern-requires-clause-live : goal.intern-requires-clause-live
intern-requires-clause-live g c =
    node_live c.args.keys.now c.args.numbers.now c.requires.0 c.requires.1 c.in-Plan.plan.requests

pub returns-in_ok-intern-in-Plan-clause-ok : goal.returns-in_ok-intern-in-Plan-clause-ok
returns-in_ok-intern-in-Plan-clause-ok g c = λ known h.
    rw (← c.deref.ensures, c.in-Plan.is)
    (has_key c.args.keys.now c.intern.new.keys c.args.numbers.now c.intern.new.numbers known c.args.id c.in-Plan.plan
    c.in_ok-intern-in-Plan.field-0 c.in_ok-intern-in-Plan.ensures.stay h c.in_ok-intern-in-Plan.ensures.there
    c.in_ok-intern-in-Plan.ensures.put)
