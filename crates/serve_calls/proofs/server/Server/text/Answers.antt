use Rattle.std.proofs.Common.{None, Some, inl, refl}
use Rattle.serve_calls.proofs.server.Server.text.Goals as goal

pub returns-in-Some : goal.returns-in-Some
returns-in-Some g c =
    let is_of = rw (c.id_of_number.ensures, c.in-Some.is) at c.text.ensures.is_of in
    (Some c.in-Some.text.now, c.text_answer.ensures, is_of)

pub returns-in-None : goal.returns-in-None
returns-in-None g c =
    let is_of = rw (c.id_of_number.ensures, c.in-None.is) at c.text.ensures.is_of in
    (None, inl refl, is_of)
