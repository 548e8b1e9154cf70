-- Books of seats, and when they agree with a journal.
use Rattle.std.specs.Prelude.{◌≡◌, ◌⊎◌, ℕ, ◌+◌, ◌<◌, ◌≤◌, ◌==◌, Bool, false, List, [], ◌∷◌, Some, None, length, take, slice_get, option_and_then, All, Contains}
use Rattle.std.specs.List.{list_any}
use Rattle.unit_outcomes.specs.declared.outcome.Outcome.TheVariants as outcomes
use Rattle.decode_jobs.specs.Keys.{Key}
use Rattle.stand_in_device.specs.KeyPictures.{picture_of_key}
use Rattle.stream_edits.specs.declared.edits.Edit.{Edit}
use Rattle.stand_in_session.specs.declared.jobs.Dropping.{Dropping}
use Rattle.stand_in_session.specs.declared.jobs.Dropping.TheVariants as dropping
use Rattle.stand_in_session.specs.Showing.{Shown}
use Rattle.stream_session.specs.declared.showing.Shown.TheVariants as shown
use Rattle.stream_edits.specs.Streams.{Stream, place_of}
use Rattle.stream_session.specs.Streams.{outcome_in}
use Rattle.stream_edits.specs.Edits.{Register, no_units, Replays}
use Rattle.stream_edits.specs.Groups.{MakesAll}
use Rattle.stream_edits.specs.Journals.{edits_of}
use Rattle.stream_session.specs.Showing.{keys_in, HasKey}
use Rattle.seat_books.specs.declared.book.SeatBook.{SeatBook}
use Rattle.seat_books.specs.declared.receipts.SeatReceipt.{SeatReceipt}
use Rattle.seat_books.specs.declared.receipts.SeatReceipt.TheVariants as receipts

-- the journal's length that a receipt notes
abbrev pub length_in : SeatReceipt → ℕ
length_in (receipts.Edit edit id n) = n
length_in (receipts.Group group n) = n
length_in (receipts.Show id answer n) = n
length_in (receipts.Drop id answer n) = n

-- whether the receipt is of the edit or group that made the journal so long
abbrev pub is_edit_of : ℕ → SeatReceipt → Bool
is_edit_of n (receipts.Edit edit id m) = m == n
is_edit_of n (receipts.Group group m) = m == n
is_edit_of n (receipts.Show id answer m) = false
is_edit_of n (receipts.Drop id answer m) = false

-- whether one of the books has a receipt of that edit or group
abbrev pub is_noted : List SeatBook → ℕ → Bool
is_noted books n = list_any (λ book. list_any (is_edit_of n) book.receipts.items) books

-- the edits of the journal's first entries, so many, lead to this from the empty stream
pub record LeadTo (journal : List (List Edit)) (n : ℕ) (register : Register) : Type 0 where
  pub within : n ≤ length journal
  pub replayed : Replays no_units (edits_of (take n journal)) register

-- the receipt of edits agrees, after the books of lower seats and the earlier receipts of its own:
-- they are the journal's entry at its length, which replay gives its ids; its length is above those
-- of earlier receipts, and no book of a lower seat has that entry
pub record EditAgrees (journal : List (List Edit)) (lower : List SeatBook) (earlier : List SeatReceipt)
    (edits : List Edit) (ids : List ℕ) (n : ℕ) : Type 0 where
  pub at : ℕ
  pub before : Register
  pub after : Register
  pub counted : n ≡ at + 1
  pub stands : slice_get journal at ≡ Some edits
  pub leads : LeadTo journal at before
  pub made : MakesAll before edits ids after
  pub later : All (λ receipt. length_in receipt < n) earlier
  pub own : is_noted lower n ≡ false

-- a valid unit of the stream has the key
abbrev pub IsInUse : Stream → Key → Type 0
IsInUse stream key = Contains (keys_in stream) (Some key)

-- the key is in use after each number of entries from one to another
abbrev pub StaysInUse : List (List Edit) → Key → ℕ → ℕ → Type 0
StaysInUse journal key from to =
    (n : ℕ) (register : Register) → from ≤ n → n ≤ to → LeadTo journal n register
    → IsInUse register.stream key

-- after so many entries the unit that has the id has the key
abbrev pub HasKeyAfter : List (List Edit) → ℕ → ℕ → Key → Type 0
HasKeyAfter journal n id key =
    (register : Register) × LeadTo journal n register × HasKey register.stream id key

-- the receipt is of a picture that was shown of a unit with the key, which stayed in use up to so
-- many entries
abbrev pub ShowsReady : List (List Edit) → ℕ → Key → SeatReceipt → Type 0
ShowsReady journal n key (receipts.Show id (shown.Ready picture) from) =
    HasKeyAfter journal from id key × StaysInUse journal key from n
ShowsReady journal n key _ = ⊥

-- the receipt is of a picture that was dropped, of a unit with the key
abbrev pub DropsKey : List (List Edit) → Key → SeatReceipt → Type 0
DropsKey journal key (receipts.Drop id dropping.Dropped n) = HasKeyAfter journal n id key
DropsKey journal key _ = ⊥

-- the book of another seat has such a receipt, with a length from one number to another
pub record IsDroppedElsewhere (journal : List (List Edit)) (books : List SeatBook) (seat : ℕ) (key : Key) (from to : ℕ)
    : Type 0 where
  pub other : ℕ
  pub book : SeatBook
  pub receipt : SeatReceipt
  pub apart : other ≡ seat → ⊥
  pub stands : slice_get books other ≡ Some book
  pub among : Contains book.receipts.items receipt
  pub drops : DropsKey journal key receipt
  pub above : from ≤ length_in receipt
  pub below : length_in receipt ≤ to

-- one of the earlier receipts of the seat is of such a picture, which no receipt after it drops,
-- nor one of another seat
pub record WasReady (journal : List (List Edit)) (books : List SeatBook) (seat : ℕ) (earlier : List SeatReceipt) (n : ℕ)
    (key : Key) : Type 0 where
  pub at : ℕ
  pub receipt : SeatReceipt
  pub stands : slice_get earlier at ≡ Some receipt
  pub shows : ShowsReady journal n key receipt
  pub kept : (later : ℕ) (other : SeatReceipt) → at < later → slice_get earlier later ≡ Some other
      → DropsKey journal key other → ⊥
  pub nowhere : IsDroppedElsewhere journal books seat key (length_in receipt) n → ⊥

-- the answer of a show is possible after so many entries, which lead to the stream: the picture of
-- the unit's key; that a valid unit waits, whose key isn't one that was shown ready before and
-- stayed in use, undropped; the unit's fault; that the unit has no picture; or that there is no
-- such unit
abbrev pub IsPossible : List (List Edit) → List SeatBook → ℕ → List SeatReceipt → ℕ → Stream → ℕ → Shown → Type 0
IsPossible journal books seat earlier n stream id (shown.Ready picture) =
    (key : Key) × HasKey stream id key × (picture ≡ picture_of_key key)
IsPossible journal books seat earlier n stream id shown.Pending =
    (key : Key) × HasKey stream id key × (WasReady journal books seat earlier n key → ⊥)
IsPossible journal books seat earlier n stream id (shown.Fault fault) =
    outcome_in stream id ≡ Some (outcomes.Fault fault)
IsPossible journal books seat earlier n stream id shown.Empty = outcome_in stream id ≡ Some outcomes.Empty
IsPossible journal books seat earlier n stream id shown.NoSuchUnit = place_of stream id ≡ None

-- the unit that has the id is there and isn't valid
abbrev pub HasNoKey : Stream → ℕ → Type 0
HasNoKey stream id = option_and_then (slice_get (keys_in stream)) (place_of stream id) ≡ Some None

-- the answer of a drop is possible after so many entries, which lead to the stream: that the
-- picture of a valid unit was dropped; that no picture was held of one that isn't valid, or that
-- may be shown pending; or that there is no such unit
abbrev pub IsDropPossible : List (List Edit) → List SeatBook → ℕ → List SeatReceipt → ℕ → Stream → ℕ → Dropping → Type 0
IsDropPossible journal books seat earlier n stream id dropping.Dropped = (key : Key) × HasKey stream id key
IsDropPossible journal books seat earlier n stream id dropping.NotHeld =
    HasNoKey stream id ⊎ IsPossible journal books seat earlier n stream id shown.Pending
IsDropPossible journal books seat earlier n stream id dropping.NoSuchUnit = place_of stream id ≡ None

-- the receipt of a show agrees, after the earlier receipts of its book: its length is that of the
-- journal at most, and not below those of earlier receipts, and after so many entries its answer is
-- possible
pub record ShowAgrees (journal : List (List Edit)) (books : List SeatBook) (seat : ℕ) (earlier : List SeatReceipt) (id : ℕ)
    (answer : Shown) (n : ℕ) : Type 0 where
  pub register : Register
  pub leads : LeadTo journal n register
  pub later : All (λ receipt. length_in receipt ≤ n) earlier
  pub possible : IsPossible journal books seat earlier n register.stream id answer

-- the receipt of a drop agrees in the same way
pub record DropAgrees (journal : List (List Edit)) (books : List SeatBook) (seat : ℕ) (earlier : List SeatReceipt) (id : ℕ)
    (answer : Dropping) (n : ℕ) : Type 0 where
  pub register : Register
  pub leads : LeadTo journal n register
  pub later : All (λ receipt. length_in receipt ≤ n) earlier
  pub possible : IsDropPossible journal books seat earlier n register.stream id answer

-- a receipt of the seat, counted from 0, agrees with the journal, beside the books of all seats and
-- after the earlier receipts of its own
abbrev pub Agrees : List (List Edit) → List SeatBook → ℕ → List SeatReceipt → SeatReceipt → Type 0
Agrees journal books seat earlier (receipts.Edit edit id n) =
    EditAgrees journal (take seat books) earlier (edit ∷ []) (id ∷ []) n
Agrees journal books seat earlier (receipts.Group group n) =
    EditAgrees journal (take seat books) earlier group.edits group.ids n
Agrees journal books seat earlier (receipts.Show id answer n) = ShowAgrees journal books seat earlier id answer n
Agrees journal books seat earlier (receipts.Drop id answer n) = DropAgrees journal books seat earlier id answer n

-- the first receipts of the seat's book, so many, agree
abbrev pub FirstAgree : List (List Edit) → List SeatBook → ℕ → List SeatReceipt → ℕ → Type 0
FirstAgree journal books seat book n =
    (at : ℕ) (receipt : SeatReceipt) → at < n → slice_get book at ≡ Some receipt
    → Agrees journal books seat (take at book) receipt

-- the seat's book agrees: each receipt does
abbrev pub BookAgrees : List (List Edit) → List SeatBook → ℕ → SeatBook → Type 0
BookAgrees journal books seat book =
    FirstAgree journal books seat book.receipts.items (length book.receipts.items)

-- the books of the first seats, so many, agree with the journal
abbrev pub FirstBooksAgree : List (List Edit) → List SeatBook → ℕ → Type 0
FirstBooksAgree journal books n =
    (at : ℕ) (book : SeatBook) → at < n → slice_get books at ≡ Some book
    → BookAgrees journal books at book

-- the books of the seats, in their order, agree with the journal
abbrev pub BooksAgree : List (List Edit) → List SeatBook → Type 0
BooksAgree journal books = FirstBooksAgree journal books (length books)
