-- What is found of the seats and of their books at the end.
use Rattle.std.proofs.Common.{◌≡◌, ℕ, ◌+◌, ◌<◌, Bool, true, false, List, length, Option, Some, sym, subst}
use Rattle.std.specs.Prelude.{Contains, Result, Ok, Err, IfErr, IfOk}
use Rattle.std.specs.Bool.{Decides}
use Rattle.std.specs.declared.alloc.AllocError.{AllocError}
use Rattle.stream_edits.specs.declared.edits.Edit.{Edit}
use Rattle.seat_books.specs.declared.book.SeatBook.{SeatBook}
use Rattle.seat_books.specs.Books.{BooksAgree, is_noted}
use Rattle.seat_books.specs.declared.faults.AuditFault.{AuditFault}
use Rattle.seat_books.specs.declared.faults.AuditFault.TheVariants as audits
use Rattle.seat_books.specs.Faults.{IsFaultOf}
use Rattle.decode_pool.specs.declared.faults.FinishFault.{FinishFault}
use Rattle.decode_pool.specs.declared.faults.FinishFault.TheVariants as faults
use Rattle.decode_pool.specs.declared.finishing.Refusal.{Refusal}
use Rattle.decode_pool.specs.declared.seat.Seat.{Seat}
use Rattle.decode_pool.specs.Finishing.{AreBooksOf, AreEachOnce, AreNumbered, AreWithin, IsBookOf, IsFault, IsFinished, IsRefusal, IsWant, Tells, TellsAudit, copied, journal_in}
use Rattle.decode_pool.proofs.Agreed.{as_many, each_once}

-- the seats' numbers
pub numbered_if : (opened : ℕ) (seats : List Seat) (b : Bool) → AreWithin opened seats
    → Decides b (AreEachOnce opened seats) → Decides b (AreNumbered opened seats)
numbered_if opened seats b within once =
    (λ met. record { within = within; once = once.0 met }, λ all. once.1 all.once)

-- a copy of the book of a seat
pub book_found : (seats : List Seat) (n : ℕ) (seat : Seat) (answer : Result SeatBook AllocError) → Contains seats seat
    → seat.number ≡ n → IfOk answer (λ copy. copy.receipts.items ≡ seat.book.receipts.items)
    → IfOk answer (IsBookOf seats n)
book_found seats n seat (Ok copy) among number copied = (seat, among, number, copied)
book_found seats n seat (Err wanted) among number copied = tt

-- the end, where all is well
pub finished : (opened : ℕ) (seats : List Seat) (journal : List (List Edit)) (books : List SeatBook) → AreNumbered opened seats
    → AreBooksOf opened seats books → BooksAgree journal books
    → ((at : ℕ) → at < length journal → is_noted books (at + 1) ≡ true) → IsFinished opened seats journal
finished opened seats journal books numbered theirs agree noted = record {
  numbered = numbered;
  books = books;
  theirs = theirs;
  agree = agree;
  once = each_once journal books agree noted;
  counted = as_many journal books agree (each_once journal books agree noted);
}

-- why there is no end: lack of memory, which says nothing
pub wanted : (opened : ℕ) (seats : List Seat) (refusal : Refusal) → IsWant refusal → IsRefusal opened seats refusal
wanted opened seats refusal is =
    subst (λ (cause : FinishFault). IsFault opened seats cause (journal_in refusal)) (sym is) tt

pub want_err : {T : Type 0} (opened : ℕ) (seats : List Seat) (answer : Result T Refusal) (refusal : Refusal)
    → answer ≡ Err refusal → IsWant refusal → IfErr answer (IsRefusal opened seats)
want_err {T} opened seats answer refusal is want =
    subst (λ (it : Result T Refusal). IfErr it (IsRefusal opened seats)) (sym is) (wanted opened seats refusal want)

-- this cause, of the journal that was copied
woken : {V W : Type 0} (opened : ℕ) (seats : List Seat) (cause : FinishFault) (journal : List (List Edit))
    (items : V → List (List Edit)) (copy : Result V W) (refusal : Refusal)
    → IfOk copy (λ it. items it ≡ journal) → Tells cause (copied items copy) refusal
    → IsFault opened seats cause (Some journal) → IsRefusal opened seats refusal
woken {V} {W} opened seats cause journal items (Ok copy) refusal same tells fault =
    subst (λ (it : FinishFault). IsFault opened seats it (journal_in refusal)) (sym tells.0)
    (subst (λ (it : Option (List (List Edit))). IsFault opened seats cause it) (sym tells.1)
    (subst (λ (it : List (List Edit)). IsFault opened seats cause (Some it)) (sym same) fault))
woken {V} {W} opened seats cause journal items (Err wanted_it) refusal same tells fault =
    wanted opened seats refusal tells

-- the fault of the audit
pub audited : {V W : Type 0} (opened : ℕ) (seats : List Seat) (journal : List (List Edit)) (books : List SeatBook)
    (fault : AuditFault) (items : V → List (List Edit)) (copy : Result V W) (refusal : Refusal)
    → AreNumbered opened seats → AreBooksOf opened seats books → IfOk copy (λ it. items it ≡ journal)
    → TellsAudit fault (copied items copy) refusal → IsFaultOf journal books fault → IsRefusal opened seats refusal
audited {V} {W} opened seats journal books (audits.SeatDisagrees seat number) items copy refusal numbered theirs same tells fault =
    woken opened seats (faults.SeatDisagrees seat number) journal items copy refusal same tells
    (record { numbered = numbered; books = books; theirs = theirs; disagrees = fault })
audited {V} {W} opened seats journal books audits.Memory items copy refusal numbered theirs same tells fault =
    wanted opened seats refusal tells

-- an entry of no book
abbrev pub Lacks : List (List Edit) → List SeatBook → Type 0
Lacks journal books = (at : ℕ) × (at < length journal) × (is_noted books (at + 1) ≡ false)

pub missed : {V W : Type 0} (opened : ℕ) (seats : List Seat) (journal : List (List Edit)) (books : List SeatBook)
    (items : V → List (List Edit)) (copy : Result V W) (refusal : Refusal)
    → AreNumbered opened seats → AreBooksOf opened seats books → BooksAgree journal books
    → IfOk copy (λ it. items it ≡ journal) → Tells faults.SeatMissing (copied items copy) refusal
    → Lacks journal books → IsRefusal opened seats refusal
missed {V} {W} opened seats journal books items copy refusal numbered theirs agree same tells lacks =
    woken opened seats faults.SeatMissing journal items copy refusal same tells
    (record {
      numbered = numbered;
      books = books;
      theirs = theirs;
      agree = agree;
      at = lacks.0;
      within = lacks.1;
      lacks = lacks.2;
    })
