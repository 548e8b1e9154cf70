-- When a desk is finished, and why it isn't.
use Rattle.std.specs.Prelude.{◌≡◌, ℕ, ◌+◌, ◌<◌, ◌≤◌, ◌==◌, Bool, true, false, List, length, slice_get, option_map, count_by, sum_by, All, Contains, Option, None, Some, Result, Ok, Err}
use Rattle.stream_edits.specs.declared.edits.Edit.{Edit}
use Rattle.seat_books.specs.declared.book.SeatBook.{SeatBook}
use Rattle.seat_books.specs.declared.receipts.SeatReceipt.{SeatReceipt}
use Rattle.seat_books.specs.declared.receipts.SeatReceipt.TheVariants as receipts
use Rattle.seat_books.specs.Books.{BooksAgree, is_edit_of, is_noted}
use Rattle.seat_books.specs.declared.faults.AuditFault.{AuditFault}
use Rattle.seat_books.specs.declared.faults.AuditFault.TheVariants as audits
use Rattle.seat_books.specs.Faults.{Disagrees}
use Rattle.decode_pool.specs.declared.faults.FinishFault.{FinishFault}
use Rattle.decode_pool.specs.declared.faults.FinishFault.TheVariants as faults
use Rattle.decode_pool.specs.declared.finishing.Refusal.{Refusal}
use Rattle.decode_pool.specs.declared.seat.Seat.{Seat}

-- how many seats have the number
abbrev pub seats_of : List Seat → ℕ → ℕ
seats_of seats n = count_by (λ seat. seat.number == n) seats

-- the seats have no other numbers than those from 1 to how many were opened
abbrev pub AreWithin : ℕ → List Seat → Type 0
AreWithin opened seats = All (λ seat. (0 < seat.number) × (seat.number ≤ opened)) seats

-- each of those numbers is that of one seat
abbrev pub AreEachOnce : ℕ → List Seat → Type 0
AreEachOnce opened seats = (n : ℕ) → 0 < n → n ≤ opened → seats_of seats n ≡ 1

-- the seats have the numbers from 1 to how many were opened, each once
pub record AreNumbered (opened : ℕ) (seats : List Seat) : Type 0 where
  pub within : AreWithin opened seats
  pub once : AreEachOnce opened seats

-- the book has the receipts of the seat of the number
abbrev pub IsBookOf : List Seat → ℕ → SeatBook → Type 0
IsBookOf seats n book =
    (seat : Seat) × Contains seats seat × (seat.number ≡ n) × (book.receipts.items ≡ seat.book.receipts.items)

-- the books are those of the seats, in the order of their numbers
abbrev pub AreBooksOf : ℕ → List Seat → List SeatBook → Type 0
AreBooksOf opened seats books =
    (length books ≡ opened)
    × ((at : ℕ) (book : SeatBook) → slice_get books at ≡ Some book → IsBookOf seats (at + 1) book)

-- how many receipts of the books are of the edit or group that made the journal so long
abbrev pub times_noted : List SeatBook → ℕ → ℕ
times_noted books n = sum_by (λ book. count_by (is_edit_of n) book.receipts.items) books

-- each entry of the journal stands in the books once
abbrev pub IsEachOnce : List (List Edit) → List SeatBook → Type 0
IsEachOnce journal books = (at : ℕ) → at < length journal → times_noted books (at + 1) ≡ 1

-- whether the receipt is of an edit or a group
abbrev pub is_edit : SeatReceipt → Bool
is_edit (receipts.Edit edit id n) = true
is_edit (receipts.Group group n) = true
is_edit (receipts.Show id answer n) = false
is_edit (receipts.Drop id answer n) = false

-- how many edits and groups the books have
abbrev pub edits_in : List SeatBook → ℕ
edits_in books = sum_by (λ book. count_by is_edit book.receipts.items) books

-- the seats are those that were opened, their books agree with the journal, and each entry of the
-- journal stands in one of them, as many as the seats made
pub record IsFinished (opened : ℕ) (seats : List Seat) (journal : List (List Edit)) : Type 0 where
  pub numbered : AreNumbered opened seats
  pub books : List SeatBook
  pub theirs : AreBooksOf opened seats books
  pub agree : BooksAgree journal books
  pub once : IsEachOnce journal books
  pub counted : edits_in books ≡ length journal

-- the seats are those that were opened and their books agree with the journal, but one of its
-- entries stands in no book
pub record LacksBook (opened : ℕ) (seats : List Seat) (journal : List (List Edit)) : Type 0 where
  pub numbered : AreNumbered opened seats
  pub books : List SeatBook
  pub theirs : AreBooksOf opened seats books
  pub agree : BooksAgree journal books
  pub at : ℕ
  pub within : at < length journal
  pub lacks : is_noted books (at + 1) ≡ false

-- the seats are those that were opened, and this receipt is the first that doesn't agree with the
-- journal
pub record HasFault (opened : ℕ) (seats : List Seat) (journal : List (List Edit)) (seat number : ℕ) : Type 0 where
  pub numbered : AreNumbered opened seats
  pub books : List SeatBook
  pub theirs : AreBooksOf opened seats books
  pub disagrees : Disagrees journal books seat number

-- why a desk isn't finished, of the seats alone or of the journal too; lack of memory, and that the
-- session began from a snapshot, say nothing of either
abbrev pub IsFault : ℕ → List Seat → FinishFault → Option (List (List Edit)) → Type 0
IsFault opened seats faults.SeatMissing None = AreNumbered opened seats → ⊥
IsFault opened seats faults.SeatMissing (Some journal) = LacksBook opened seats journal
IsFault opened seats (faults.SeatDisagrees seat number) (Some journal) = HasFault opened seats journal seat number
IsFault opened seats (faults.SeatDisagrees seat number) None = ⊥
IsFault opened seats faults.Memory journal = Unit {0}
IsFault opened seats faults.NotAudited journal = Unit {0}

-- the journal that a refusal copies
abbrev pub journal_in : Refusal → Option (List (List Edit))
journal_in refusal = option_map (λ copy. copy.items) refusal.journal

-- a refusal tells why, of the seats alone or of the journal that it copies
abbrev pub IsRefusal : ℕ → List Seat → Refusal → Type 0
IsRefusal opened seats refusal =
    IsFault opened seats refusal.cause (journal_in refusal)

-- a refusal tells that memory ran out
abbrev pub IsWant : Refusal → Type 0
IsWant refusal = refusal.cause ≡ faults.Memory

-- what was copied of a journal, if there was memory for it
abbrev pub copied : {V W : Type 0} → (V → List (List Edit)) → Result V W → Option (List (List Edit))
copied items (Ok copy) = Some (items copy)
copied items (Err wanted) = None

-- a refusal tells this cause with the copy of the journal; where there was no memory for one, and
-- there alone, that memory is wanted
abbrev pub Tells : FinishFault → Option (List (List Edit)) → Refusal → Type 0
Tells cause (Some journal) refusal = (refusal.cause ≡ cause) × (journal_in refusal ≡ Some journal)
Tells cause None refusal = IsWant refusal

-- a refusal tells the fault of an audit
abbrev pub TellsAudit : AuditFault → Option (List (List Edit)) → Refusal → Type 0
TellsAudit (audits.SeatDisagrees seat number) copy refusal = Tells (faults.SeatDisagrees seat number) copy refusal
TellsAudit audits.Memory copy refusal = IsWant refusal
