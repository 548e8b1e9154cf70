-- Where books agree with a journal and each of its entries is noted, each is noted once.
use Rattle.std.proofs.Common.{◌≡◌, ℕ, ◌+◌, ◌<◌, Bool, true, false, List, [], ◌∷◌, length, take, refl, sym, ◌∙◌, ap, subst, arith}
use Rattle.std.specs.Prelude.{count_by, All}
use Rattle.std.specs.List.{list_any}
use Rattle.std.proofs.lemmas.Bool.{eqb-true, ne_eqb}
use Rattle.std.proofs.lemmas.List.Folds.{list_any_none}
use Rattle.std.proofs.lemmas.Option.{slice_get_within}
use Rattle.stream_edits.specs.declared.edits.Edit.{Edit}
use Rattle.seat_books.specs.declared.book.SeatBook.{SeatBook}
use Rattle.seat_books.specs.declared.receipts.SeatReceipt.{SeatReceipt}
use Rattle.seat_books.specs.declared.receipts.SeatReceipt.TheVariants as receipts
use Rattle.seat_books.specs.Books.{Agrees, BookAgrees, BooksAgree, is_edit_of, is_noted, length_in}
use Rattle.decode_pool.specs.Finishing.{IsEachOnce, edits_in, is_edit, times_noted}
use Rattle.decode_pool.proofs.Counting.{AreLoneFirsts, count_lone, found, met_once, sum_same, sum_to, sum_to-one, sum_to-same, sum_to-sum_by, sum_to-zero, weight}

-- a receipt with a lower length is of another entry
lower_is_other : (n : ℕ) (receipt : SeatReceipt) → length_in receipt < n → is_edit_of n receipt ≡ false
lower_is_other n (receipts.Edit edit id m) low = ne_eqb m n (λ same. absurd (omega arith))
lower_is_other n (receipts.Group group m) low = ne_eqb m n (λ same. absurd (omega arith))
lower_is_other n (receipts.Show id answer m) low = refl
lower_is_other n (receipts.Drop id answer m) low = refl

none_lower : (n : ℕ) (earlier : List SeatReceipt) → All (λ receipt. length_in receipt < n) earlier
    → list_any (is_edit_of n) earlier ≡ false
none_lower n earlier low =
    list_any_none (is_edit_of n) earlier (λ k other within. lower_is_other n _ (low k other within))

-- the receipt of an entry that agrees is the first of its entry, in its book
lone_receipt : (journal : List (List Edit)) (books : List SeatBook) (seat : ℕ) (earlier : List SeatReceipt) (receipt : SeatReceipt) (n : ℕ)
    → Agrees journal books seat earlier receipt → is_edit_of n receipt ≡ true → list_any (is_edit_of n) earlier ≡ false
lone_receipt journal books seat earlier (receipts.Edit edit id m) n agrees met =
    let same : m ≡ n = eqb-true m n met in
    let none : list_any (is_edit_of m) earlier ≡ false = none_lower m earlier agrees.later in
    subst (λ (k : ℕ). list_any (is_edit_of k) earlier ≡ false) same none
lone_receipt journal books seat earlier (receipts.Group group m) n agrees met =
    let same : m ≡ n = eqb-true m n met in
    let none : list_any (is_edit_of m) earlier ≡ false = none_lower m earlier agrees.later in
    subst (λ (k : ℕ). list_any (is_edit_of k) earlier ≡ false) same none
lone_receipt journal books seat earlier (receipts.Show id answer m) n agrees met = absurd (cc)
lone_receipt journal books seat earlier (receipts.Drop id answer m) n agrees met = absurd (cc)

-- and no book of a lower seat has it
lone_owner : (journal : List (List Edit)) (books : List SeatBook) (seat : ℕ) (earlier : List SeatReceipt) (receipt : SeatReceipt) (n : ℕ)
    → Agrees journal books seat earlier receipt → is_edit_of n receipt ≡ true → is_noted (take seat books) n ≡ false
lone_owner journal books seat earlier (receipts.Edit edit id m) n agrees met =
    let own : is_noted (take seat books) m ≡ false = agrees.own in
    subst (λ (k : ℕ). is_noted (take seat books) k ≡ false) (eqb-true m n met) own
lone_owner journal books seat earlier (receipts.Group group m) n agrees met =
    let own : is_noted (take seat books) m ≡ false = agrees.own in
    subst (λ (k : ℕ). is_noted (take seat books) k ≡ false) (eqb-true m n met) own
lone_owner journal books seat earlier (receipts.Show id answer m) n agrees met = absurd (cc)
lone_owner journal books seat earlier (receipts.Drop id answer m) n agrees met = absurd (cc)

-- whether the book has a receipt of the entry
abbrev has : ℕ → SeatBook → Bool
has n book = list_any (is_edit_of n) book.receipts.items

lone_in_book : (journal : List (List Edit)) (books : List SeatBook) (seat : ℕ) (book : SeatBook) (n : ℕ) → BookAgrees journal books seat book
    → AreLoneFirsts (is_edit_of n) book.receipts.items
lone_in_book journal books seat book n agrees = λ at receipt is met.
    lone_receipt journal books seat (take at book.receipts.items) receipt n
    (agrees at receipt (slice_get_within book.receipts.items at receipt is) is) met

lone_books : (journal : List (List Edit)) (books : List SeatBook) (n : ℕ) → BooksAgree journal books
    → AreLoneFirsts (has n) books
lone_books journal books n agree = λ at book is met.
    let inside = found (is_edit_of n) book.receipts.items met in
    lone_owner journal books at (take inside.0 book.receipts.items) inside.1 n
    (agree at book (slice_get_within books at book is) is inside.0 inside.1
    (slice_get_within book.receipts.items inside.0 inside.1 inside.2) inside.2) inside.3

-- an entry that is noted is noted once
pub noted_once : (journal : List (List Edit)) (books : List SeatBook) (n : ℕ) → BooksAgree journal books
    → times_noted books n ≡ weight (is_noted books n)
noted_once journal books n agree =
    sum_same (λ (book : SeatBook). count_by (is_edit_of n) book.receipts.items) (λ (book : SeatBook). weight (has n book))
    books
    (λ at book is.
    count_lone (is_edit_of n) book.receipts.items
    (lone_in_book journal books at book n (agree at book (slice_get_within books at book is) is)))
    ∙ count_lone (has n) books (lone_books journal books n agree)

pub each_once : (journal : List (List Edit)) (books : List SeatBook) → BooksAgree journal books
    → ((at : ℕ) → at < length journal → is_noted books (at + 1) ≡ true) → IsEachOnce journal books
each_once journal books agree noted = λ at within.
    noted_once journal books (at + 1) agree ∙ ap (λ (b : Bool). weight b) (noted at within)

-- an entry's receipt is met once among the journal's lengths, a show's never
met_receipt : (journal : List (List Edit)) (books : List SeatBook) (seat : ℕ) (earlier : List SeatReceipt) (receipt : SeatReceipt)
    → Agrees journal books seat earlier receipt
    → sum_to (λ n. weight (is_edit_of n receipt)) (length journal) ≡ weight (is_edit receipt)
met_receipt journal books seat earlier (receipts.Edit edit id m) agrees =
    let counted : m ≡ agrees.at + 1 = agrees.counted in
    let within : agrees.at < length journal = slice_get_within journal agrees.at (edit ∷ []) agrees.stands in
    met_once m (length journal) (omega arith) (omega arith)
met_receipt journal books seat earlier (receipts.Group group m) agrees =
    let counted : m ≡ agrees.at + 1 = agrees.counted in
    let within : agrees.at < length journal = slice_get_within journal agrees.at group.edits agrees.stands in
    met_once m (length journal) (omega arith) (omega arith)
met_receipt journal books seat earlier (receipts.Show id answer m) agrees = sum_to-zero (length journal)
met_receipt journal books seat earlier (receipts.Drop id answer m) agrees = sum_to-zero (length journal)

met_book : (journal : List (List Edit)) (books : List SeatBook) (seat : ℕ) (book : SeatBook) → BookAgrees journal books seat book
    → sum_to (λ n. count_by (is_edit_of n) book.receipts.items) (length journal)
    ≡ count_by is_edit book.receipts.items
met_book journal books seat book agrees =
    sum_to-sum_by (λ n (receipt : SeatReceipt). weight (is_edit_of n receipt)) book.receipts.items (length journal)
    ∙ sum_same (λ (receipt : SeatReceipt). sum_to (λ n. weight (is_edit_of n receipt)) (length journal))
    (λ (receipt : SeatReceipt). weight (is_edit receipt)) book.receipts.items
    (λ at receipt is.
    met_receipt journal books seat (take at book.receipts.items) receipt
    (agrees at receipt (slice_get_within book.receipts.items at receipt is) is))

-- the books have as many edits and groups as the journal
pub as_many : (journal : List (List Edit)) (books : List SeatBook) → BooksAgree journal books → IsEachOnce journal books
    → edits_in books ≡ length journal
as_many journal books agree once =
    sym
    (sum_to-sum_by (λ n (book : SeatBook). count_by (is_edit_of n) book.receipts.items) books (length journal)
    ∙ sum_same (λ (book : SeatBook). sum_to (λ n. count_by (is_edit_of n) book.receipts.items) (length journal))
    (λ (book : SeatBook). count_by is_edit book.receipts.items) books
    (λ at book is.
    met_book journal books at book (agree at book (slice_get_within books at book is) is)))
    ∙ (sum_to-same (λ n. times_noted books n) (λ n. 1) (length journal) once ∙ sum_to-one (length journal))
