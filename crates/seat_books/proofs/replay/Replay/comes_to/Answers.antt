use Rattle.std.proofs.Common.{arith}
use Rattle.seat_books.proofs.replay.Replay.comes_to.Goals as goal

pub returns : goal.returns
returns c = λ books seat earlier tabled replayed.
    c.in_ok-go_on.ensures books seat earlier tabled replayed (omega (arith, c.reach.ensures, c.if-to-reach.false))
