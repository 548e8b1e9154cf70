use Rattle.std.proofs.Common.{◌≡◌, ℕ, List}
use Rattle.seat_books.specs.declared.book.SeatBook.{SeatBook}
use Rattle.seat_books.specs.declared.receipts.SeatReceipt.{SeatReceipt}
use Rattle.seat_books.specs.Drops.{AreDrops}
use Rattle.seat_books.specs.Following.{IsReplayed, reach}
use Rattle.seat_books.proofs.replay.Replay.go_on.Given as goal

abbrev pub invariant-loop-at : goal.invariant-loop-at
invariant-loop-at l =
    (books : List SeatBook) (seat : ℕ) (earlier : List SeatReceipt) → AreDrops l.journal books l.drops
    → IsReplayed l.journal books seat earlier l.initial.self
    → IsReplayed l.journal books seat earlier l.self × (reach l.self ≡ l.at)
