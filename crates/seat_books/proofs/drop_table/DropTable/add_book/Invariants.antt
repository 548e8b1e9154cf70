use Rattle.std.proofs.Common.{◌≡◌, ◌⊎◌, ℕ, ◌<◌, length, take}
use Rattle.std.specs.Prelude.{◌↔◌, Contains}
use Rattle.seat_books.specs.declared.drop_table.SeatDrop.{SeatDrop}
use Rattle.seat_books.specs.Drops.{IsDropIn, drops_at}
use Rattle.seat_books.proofs.drop_table.DropTable.add_book.Given as goal

abbrev pub invariant-loop-receipt : goal.invariant-loop-receipt
invariant-loop-receipt l = record {
  size : length l.self.by_length.items ≡ length l.initial.self.by_length.items;
  drops : (n : ℕ) (drop : SeatDrop) → n < length l.initial.self.by_length.items
      → Contains (drops_at l.self n) drop
      ↔ (Contains (drops_at l.initial.self n) drop ⊎ IsDropIn l.seat (take l.receipt-index l.book.receipts.items) n drop);
}
