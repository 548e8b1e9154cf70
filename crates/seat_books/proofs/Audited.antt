-- What is known of a book, receipt by receipt, and of books, seat by seat.
use Rattle.std.proofs.Common.{◌≡◌, ◌⊎◌, ℕ, zero, suc, ◌+◌, ◌<◌, List, [], ◌∷◌, ◌++◌, take, Some, ap, sym, ◌∙◌, subst, arith, inl, inr}
use Rattle.std.specs.Prelude.{slice_get}
use Rattle.std.proofs.lemmas.List.{take_more}
use Rattle.std.proofs.lemmas.Option.{slice_get_within, get_or_from_slice_get}
use Rattle.stream_edits.specs.declared.edits.Edit.{Edit}
use Rattle.seat_books.specs.declared.book.SeatBook.{SeatBook}
use Rattle.seat_books.specs.declared.receipts.SeatReceipt.{SeatReceipt}
use Rattle.seat_books.specs.Books.{Agrees, BookAgrees, FirstAgree, FirstBooksAgree}
use Rattle.stream_edits.proofs.OneEdit.{some_same}

-- below a number, or that number
below_or : (k n : ℕ) → k < n + 1 → (k < n) ⊎ (k ≡ n)
below_or zero zero low = inr (omega arith)
below_or zero (suc n) low = inl (omega arith)
below_or (suc k) zero low = absurd (omega (arith, low))
below_or (suc k) (suc n) low =
    elim (below_or k n (omega (arith, low))) [ inl less ↦ inl (omega (arith, less)) | inr same ↦ inr (ap suc same) ]

-- one receipt more agrees
pub FirstAgree-more : (journal : List (List Edit)) (books : List SeatBook) (seat : ℕ) (book : List SeatReceipt) (n : ℕ)
    (receipt : SeatReceipt) → slice_get book n ≡ Some receipt → Agrees journal books seat (take n book) receipt
    → FirstAgree journal books seat book n → FirstAgree journal books seat book (n + 1)
FirstAgree-more journal books seat book n receipt stands agrees first at other low there =
    elim (below_or at n low) [
      | inl before ↦ first at other before there
      | inr here ↦
          let same : receipt ≡ other =
          some_same receipt other (sym stands ∙ subst (λ (k : ℕ). slice_get book k ≡ Some other) here there) in
          subst (λ (k : ℕ). Agrees journal books seat (take k book) other) (sym here)
          (subst (λ (r : SeatReceipt). Agrees journal books seat (take n book) r) same agrees)
    ]

-- one book more agrees
pub FirstBooksAgree-more : (journal : List (List Edit)) (books : List SeatBook) (n : ℕ) (book : SeatBook)
    → slice_get books n ≡ Some book → BookAgrees journal books n book → FirstBooksAgree journal books n
    → FirstBooksAgree journal books (n + 1)
FirstBooksAgree-more journal books n book stands agrees first at other low there =
    elim (below_or at n low) [
      | inl before ↦ first at other before there
      | inr here ↦
          let same : book ≡ other =
          some_same book other (sym stands ∙ subst (λ (k : ℕ). slice_get books k ≡ Some other) here there) in
          subst (λ (k : ℕ). BookAgrees journal books k other) (sym here)
          (subst (λ (b : SeatBook). BookAgrees journal books n b) same agrees)
    ]

-- the first receipts with the next one
pub take_next_receipt : (book : List SeatReceipt) (n : ℕ) (receipt : SeatReceipt) → slice_get book n ≡ Some receipt
    → take (n + 1) book ≡ take n book ++ receipt ∷ []
take_next_receipt book n receipt stands =
    take_more book n receipt (slice_get_within book n receipt stands)
    ∙ ap (λ (r : SeatReceipt). take n book ++ r ∷ []) (get_or_from_slice_get book n receipt receipt stands)
