use Rattle.std.proofs.Common.{◌≡◌, ℕ, take}
use Rattle.std.specs.Prelude.{◌||◌}
use Rattle.std.specs.List.{list_any}
use Rattle.seat_books.specs.Books.{is_edit_of}
use Rattle.seat_books.specs.Sets.{has}
use Rattle.seat_books.proofs.book.note.Given as goal

abbrev pub invariant-loop-receipt : goal.invariant-loop-receipt
invariant-loop-receipt l =
    (n : ℕ) → has l.noted n
    ≡ (has l.initial.noted n || list_any (is_edit_of n) (take l.receipt-index l.book.receipts.items))
