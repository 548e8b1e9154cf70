use Rattle.std.proofs.Common.{sym}
use Rattle.decode_pool.proofs.Ended.{book_found}
use Rattle.decode_pool.proofs.gathering.book_of.Goals as goal

pub returns-then-seat-number : goal.returns-then-seat-number
returns-then-seat-number c =
    book_found c.args.seats.now c.args.number c.seat-item.result c.copy.result
    (c.loop-seat.seat-index, c.loop-seat-test.true, sym c.seat-item.is) c.if-seat-number.true c.copy.ensures
