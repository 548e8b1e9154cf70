use Rattle.std.proofs.Common.{◌≡◌, ℕ, ◌+◌, ◌≤◌, length, take}
use Rattle.std.specs.Prelude.{◌↔◌, Contains}
use Rattle.seat_books.specs.declared.drop_table.SeatDrop.{SeatDrop}
use Rattle.seat_books.specs.Drops.{IsDropOf, drops_at}
use Rattle.seat_books.proofs.drop_table.DropTable.of.Given as goal

abbrev pub invariant-loop-seat : goal.invariant-loop-seat
invariant-loop-seat l = record {
  size : length l.table.by_length.items ≡ l.most + 1;
  drops : (n : ℕ) (drop : SeatDrop) → n ≤ l.most
      → Contains (drops_at l.table n) drop ↔ IsDropOf (take l.seat l.books) n drop;
}
