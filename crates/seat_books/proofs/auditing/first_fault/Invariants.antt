use Rattle.std.proofs.Common.{List, take}
use Rattle.seat_books.specs.declared.book.SeatBook.{SeatBook}
use Rattle.seat_books.specs.Books.{FirstAgree}
use Rattle.seat_books.specs.Drops.{AreDrops}
use Rattle.seat_books.specs.Following.{IsUpTo}
use Rattle.seat_books.specs.Noting.{AreNoted}
use Rattle.seat_books.proofs.auditing.first_fault.Given as goal

abbrev pub invariant-loop-at : goal.invariant-loop-at
invariant-loop-at l = record {
  agreed : (books : List SeatBook) → AreNoted (take l.seat books) l.noted → AreDrops l.journal books l.drops
      → FirstAgree l.journal books l.seat l.book.receipts.items l.at;
  up_to : (books : List SeatBook) → AreNoted (take l.seat books) l.noted → AreDrops l.journal books l.drops
      → IsUpTo l.journal books l.seat (take l.at l.book.receipts.items) l.replay;
}
