-- The lengths that books note, book by book.
use Rattle.std.proofs.Common.{◌≡◌, ℕ, ◌+◌, Bool, true, false, List, take, Some, ap, sym, ◌∙◌, refl}
use Rattle.std.specs.Prelude.{◌||◌, slice_get}
use Rattle.std.specs.List.{list_any}
use Rattle.std.proofs.lemmas.List.Folds.{list_any_more}
use Rattle.std.proofs.lemmas.Option.{slice_get_within, get_or_from_slice_get}
use Rattle.seat_books.specs.declared.book.SeatBook.{SeatBook}
use Rattle.seat_books.specs.declared.number_set.NumberSet.{NumberSet}
use Rattle.seat_books.specs.declared.receipts.SeatReceipt.{SeatReceipt}
use Rattle.seat_books.specs.Books.{is_edit_of}
use Rattle.seat_books.specs.Noting.{AreNoted}
use Rattle.seat_books.specs.Sets.{has}

-- whether one of the first elements passes, with the next one
any_next : {X : Type 0} (p : X → Bool) (xs : List X) (i : ℕ) (x : X) → slice_get xs i ≡ Some x
    → list_any p (take (i + 1) xs) ≡ (list_any p (take i xs) || p x)
any_next p xs i x stands =
    list_any_more p xs i x (slice_get_within xs i x stands)
    ∙ ap (λ (y : _). list_any p (take i xs) || p y) (get_or_from_slice_get xs i x x stands)

-- one receipt more is noted
pub noted_more : (receipts : List SeatReceipt) (i : ℕ) (receipt : SeatReceipt) (start before after : NumberSet)
    → slice_get receipts i ≡ Some receipt
    → ((n : ℕ) → has before n ≡ (has start n || list_any (is_edit_of n) (take i receipts)))
    → ((n : ℕ) → has after n ≡ (has before n || is_edit_of n receipt))
    → (n : ℕ) → has after n ≡ (has start n || list_any (is_edit_of n) (take (i + 1) receipts))
noted_more receipts i receipt start before after stands were added n =
    added n
    ∙ (ap (λ (b : Bool). b || is_edit_of n receipt) (were n)
    ∙ (assoc (has start n) (list_any (is_edit_of n) (take i receipts)) (is_edit_of n receipt)
    ∙ ap (λ (b : Bool). has start n || b) (sym (any_next (is_edit_of n) receipts i receipt stands))))
  where
    assoc : (a b c : Bool) → ((a || b) || c) ≡ (a || (b || c))
    assoc true b c = refl
    assoc false b c = refl

-- one book more is noted
pub AreNoted-more : (books : List SeatBook) (i : ℕ) (book : SeatBook) (before after : NumberSet)
    → slice_get books i ≡ Some book → AreNoted (take i books) before
    → ((n : ℕ) → has after n ≡ (has before n || list_any (is_edit_of n) book.receipts.items))
    → AreNoted (take (i + 1) books) after
AreNoted-more books i book before after stands were added n =
    added n
    ∙ (ap (λ (b : Bool). b || list_any (is_edit_of n) book.receipts.items) (were n)
    ∙ sym (any_next (λ (other : SeatBook). list_any (is_edit_of n) other.receipts.items) books i book stands))
