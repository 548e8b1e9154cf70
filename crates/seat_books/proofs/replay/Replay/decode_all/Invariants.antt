use Rattle.std.proofs.Common.{ℕ, ◌≤◌, List}
use Rattle.stream_edits.specs.declared.edits.Edit.{Edit}
use Rattle.seat_books.specs.declared.book.SeatBook.{SeatBook}
use Rattle.seat_books.specs.declared.receipts.SeatReceipt.{SeatReceipt}
use Rattle.seat_books.specs.Following.{IsReplayed, Stays}
use Rattle.seat_books.proofs.replay.Replay.decode_all.Given as goal

abbrev pub invariant-loop : goal.invariant-loop
invariant-loop l = record {
  stays : Stays l.initial.self.session l.self.session;
  follows : (journal : List (List Edit)) (books : List SeatBook) (seat : ℕ) (earlier : List SeatReceipt)
      → IsReplayed journal books seat earlier l.initial.self → IsReplayed journal books seat earlier l.self;
  given : l.counter ≤ l.self.session.jobs;
}
