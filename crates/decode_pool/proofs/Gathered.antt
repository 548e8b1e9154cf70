-- Seats and books, one more each time.
use Rattle.std.proofs.Common.{◌≡◌, ◌⊎◌, ℕ, ◌+◌, List, [], ◌∷◌, ◌++◌, length, Some, ap, ◌∙◌, inl, inr, arith, length-append}
use Rattle.std.proofs.Math.Nat.{eq-or-lt_of_le}
use Rattle.std.specs.Prelude.{slice_get}
use Rattle.seat_books.specs.declared.book.SeatBook.{SeatBook}
use Rattle.decode_pool.specs.declared.seat.Seat.{Seat}
use Rattle.decode_pool.specs.Seats.{AreNew}
use Rattle.decode_pool.specs.Finishing.{AreBooksOf, AreEachOnce, IsBookOf, seats_of}
use Rattle.decode_pool.proofs.Lists.{get_push}

-- the seat is new and has the next number
record IsNewSeat (n : ℕ) (seat : Seat) : Type 0 where
  number : seat.number ≡ n + 1
  book : seat.book.receipts.items ≡ []

new_at : (n : ℕ) (seats : List Seat) (seat : Seat) → AreNew n seats → IsNewSeat n seat → (at : ℕ) (other : Seat)
    → (slice_get seats at ≡ Some other) ⊎ ((at ≡ length seats) × (other ≡ seat))
    → (other.number ≡ at + 1) × (other.book.receipts.items ≡ [])
new_at n seats seat new next at other (inl there) = new.1 at other there
new_at n seats seat new next at other (inr last) =
    let here : at ≡ length seats = last.0 in
    let number : seat.number ≡ n + 1 = next.number in
    let same : other.number ≡ seat.number = ap (λ (s : Seat). s.number) last.1 in
    let counted : length seats ≡ n = new.0 in
    (omega arith, ap (λ (s : Seat). s.book.receipts.items) last.1 ∙ next.book)

pub new_more : (n : ℕ) (seats : List Seat) (seat : Seat) → AreNew n seats → seat.number ≡ n + 1
    → seat.book.receipts.items ≡ [] → AreNew (n + 1) (seats ++ seat ∷ [])
new_more n seats seat new number book =
    let counted : length seats ≡ n = new.0 in (
      omega (arith, length-append seats (seat ∷ [])),
      λ at other is.
          new_at n seats seat new (record { number = number; book = book }) at other (get_push seats seat other at is),
    )

book_at : (n : ℕ) (seats : List Seat) (books : List SeatBook) (book : SeatBook) → AreBooksOf n seats books
    → IsBookOf seats (n + 1) book → (at : ℕ) (other : SeatBook)
    → (slice_get books at ≡ Some other) ⊎ ((at ≡ length books) × (other ≡ book)) → IsBookOf seats (at + 1) other
book_at n seats books book theirs next at other (inl there) = theirs.1 at other there
book_at n seats books book theirs next at other (inr last) =
    let here : at ≡ length books = last.0 in
    let counted : length books ≡ n = theirs.0 in
    let number : next.0.number ≡ n + 1 = next.2 in
    (next.0, next.1, omega arith, ap (λ (b : SeatBook). b.receipts.items) last.1 ∙ next.3)

pub book_more : (n : ℕ) (seats : List Seat) (books : List SeatBook) (book : SeatBook) → AreBooksOf n seats books
    → IsBookOf seats (n + 1) book → AreBooksOf (n + 1) seats (books ++ book ∷ [])
book_more n seats books book theirs next =
    let counted : length books ≡ n = theirs.0 in (
      omega (arith, length-append books (book ∷ [])),
      λ at other is. book_at n seats books book theirs next at other (get_push books book other at is),
    )

-- each number up to one more
pub each_more : (n : ℕ) (seats : List Seat) → AreEachOnce n seats → seats_of seats (n + 1) ≡ 1 → AreEachOnce (n + 1) seats
each_more n seats below here k low within =
    elim (eq-or-lt_of_le within) as (λ _. seats_of seats k ≡ 1) [
      | inl is ↦ ap (λ (m : ℕ). seats_of seats m) is ∙ here
      | inr less ↦ below k low (omega arith)
    ]
