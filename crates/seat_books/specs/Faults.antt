-- The first receipt that doesn't agree with a journal.
use Rattle.std.specs.Prelude.{◌≡◌, ℕ, ◌+◌, List, Some, take, slice_get}
use Rattle.stream_edits.specs.declared.edits.Edit.{Edit}
use Rattle.seat_books.specs.declared.book.SeatBook.{SeatBook}
use Rattle.seat_books.specs.declared.faults.AuditFault.{AuditFault}
use Rattle.seat_books.specs.declared.faults.AuditFault.TheVariants as faults
use Rattle.seat_books.specs.declared.receipts.SeatReceipt.{SeatReceipt}
use Rattle.seat_books.specs.Books.{Agrees, FirstAgree, FirstBooksAgree}

-- the receipt of the number, counted from 1, doesn't agree in the seat's book, and all before it do
pub record IsFirstFault (journal : List (List Edit)) (books : List SeatBook) (seat : ℕ) (book : List SeatReceipt)
    (number : ℕ) : Type 0 where
  pub at : ℕ
  pub receipt : SeatReceipt
  pub counted : number ≡ at + 1
  pub stands : slice_get book at ≡ Some receipt
  pub before : FirstAgree journal books seat book at
  pub differs : Agrees journal books seat (take at book) receipt → ⊥

-- the book of the seat, counted from 1, has it at the number, and the books of all lower seats
-- agree
pub record Disagrees (journal : List (List Edit)) (books : List SeatBook) (seat number : ℕ) : Type 0 where
  pub at : ℕ
  pub book : SeatBook
  pub counted : seat ≡ at + 1
  pub stands : slice_get books at ≡ Some book
  pub before : FirstBooksAgree journal books at
  pub fault : IsFirstFault journal books at book.receipts.items number

-- the fault is shown by the books; lack of memory says nothing of them
abbrev pub IsFaultOf : List (List Edit) → List SeatBook → AuditFault → Type 0
IsFaultOf journal books (faults.SeatDisagrees seat number) = Disagrees journal books seat number
IsFaultOf journal books faults.Memory = Unit {0}
