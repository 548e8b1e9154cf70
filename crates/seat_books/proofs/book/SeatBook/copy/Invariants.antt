use Rattle.std.proofs.Common.{◌≡◌, take}
use Rattle.seat_books.proofs.book.SeatBook.copy.Given as goal

abbrev pub invariant-loop-receipt : goal.invariant-loop-receipt
invariant-loop-receipt l = l.receipts.items ≡ take l.receipt-index l.self.receipts.items
