use Rattle.std.proofs.Common.{take}
use Rattle.seat_books.specs.Noting.{AreNoted}
use Rattle.seat_books.proofs.book.noted_lengths.Given as goal

abbrev pub invariant-loop-book : goal.invariant-loop-book
invariant-loop-book l = AreNoted (take l.book-index l.books) l.noted
