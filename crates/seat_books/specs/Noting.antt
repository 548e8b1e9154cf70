-- The lengths that books note for edits and groups.
use Rattle.std.specs.Prelude.{◌≡◌, ℕ, List}
use Rattle.seat_books.specs.declared.book.SeatBook.{SeatBook}
use Rattle.seat_books.specs.declared.number_set.NumberSet.{NumberSet}
use Rattle.seat_books.specs.Books.{is_noted}
use Rattle.seat_books.specs.Sets.{has}

-- the set has the lengths of the edits and groups that one of the books has
abbrev pub AreNoted : List SeatBook → NumberSet → Type 0
AreNoted books noted = (length : ℕ) → has noted length ≡ is_noted books length
