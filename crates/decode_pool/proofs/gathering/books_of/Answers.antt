use Rattle.std.proofs.Common.{◌+◌, List, sym, subst}
use Rattle.seat_books.specs.declared.book.SeatBook.{SeatBook}
use Rattle.decode_pool.specs.Finishing.{AreBooksOf}
use Rattle.decode_pool.proofs.Gathered.{book_more}
use Rattle.decode_pool.proofs.gathering.books_of.Goals as goal

pub loop-at-preserved : goal.loop-at-preserved
loop-at-preserved c =
    subst (λ (books : List SeatBook). AreBooksOf (c.loop-at.at + 1) c.args.seats.now books) (sym c.in_ok-push.ensures.items)
    (book_more c.loop-at.at c.args.seats.now c.loop-at.books.items c.in_ok-book.book c.loop-at.invariant
    c.in_ok-book.ensures)
