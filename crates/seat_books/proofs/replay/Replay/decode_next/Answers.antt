use Rattle.seat_books.proofs.Checked.{if_ok}
use Rattle.seat_books.proofs.replay.Replay.decode_next.Goals as goal

pub returns-in-Ok-Some-clause-follows : goal.returns-in-Ok-Some-clause-follows
returns-in-Ok-Some-clause-follows c =
    let told = rw c.in-Ok-Some.field-0-is at c.in-Ok-Some.ensures.tells in
    if_ok c.decode.result _ _
    (λ was_due follows journal books seat earlier replayed. follows c.args.self.now.session journal books seat earlier told replayed)
    c.decode.ensures.follows
