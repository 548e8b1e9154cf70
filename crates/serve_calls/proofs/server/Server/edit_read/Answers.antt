use Rattle.std.proofs.Common.{refl}
use Rattle.serve_calls.proofs.Remembered.{edited}
use Rattle.serve_calls.proofs.server.Server.edit_read.Goals as goal

pub returns-in-Ok-clause-makes : goal.returns-in-Ok-clause-makes
returns-in-Ok-clause-makes g c =
    let old = c.args.self.now in
    let made = c.edit_in-answer.new.self in
    edited g.B.LendsSession.is_session old (record old { history = c.begin.new.self }) made (record made { history = c.end.new.self })
    c.in-Ok.step c.edit_in-answer.new.step c.args.read c.edit_in-answer.result
    (record {
      keeps = record { backend = refl; sums = refl; source = refl };
      history = c.in-Ok.ensures.same;
      empty = c.in-Ok.ensures.empty;
      is = c.in-Ok.ensures.begun;
    })
    c.edit_in-answer.ensures.history c.edit_in-answer.ensures.makes
    (record {
      keeps = record { backend = refl; sums = refl; source = refl };
      adds = c.end.ensures.ends;
      last = c.end.ensures.done;
      nothing = c.end.ensures.nothing;
    })
