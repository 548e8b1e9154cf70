-- What the replay of a journal beside a book keeps.
use Rattle.std.specs.Prelude.{◌≡◌, ◌⊎◌, ◌↔◌, ℕ, ◌≤◌, Bool, List, [], ◌∷◌, ◌++◌, IsTrue, length, take, All, Contains}
use Rattle.decode_jobs.specs.Keys.{Key}
use Rattle.stream_edits.specs.declared.edits.Edit.{Edit}
use Rattle.stand_in_session.specs.declared.jobs.Dropping.{Dropping}
use Rattle.stand_in_session.specs.Showing.{Shown}
use Rattle.stream_edits.specs.Groups.{MakesAll}
use Rattle.picture_store.specs.Stores.{IsNumberOf}
use Rattle.stand_in_session.specs.Machines.{Machine}
use Rattle.stream_session.specs.Machines.{store_of}
use Rattle.seat_books.specs.declared.book.SeatBook.{SeatBook}
use Rattle.seat_books.specs.declared.receipts.SeatReceipt.{SeatReceipt}
use Rattle.seat_books.specs.declared.receipts.SeatReceipt.TheVariants as receipts
use Rattle.seat_books.specs.declared.number_set.NumberSet.{NumberSet}
use Rattle.seat_books.specs.declared.replay.Replay.{Replay}
use Rattle.seat_books.specs.Books.{Agrees, IsDropPossible, IsDroppedElsewhere, IsInUse, IsPossible, LeadTo, WasReady, length_in}
use Rattle.seat_books.specs.Sets.{has}

-- how many entries were made
abbrev pub reach : Replay → ℕ
reach replay = length replay.session.journal

-- the session is that of the journal's first entries
pub record IsFront (journal : List (List Edit)) (machine : Machine) : Type 0 where
  pub front : machine.journal ≡ take (length machine.journal) journal
  pub leads : LeadTo journal (length machine.journal) machine.register

-- of the keys whose pictures a session holds, the numbers are those of the keys that a receipt
-- shows as ready and that stayed in use, undropped, and each such key's picture is held
abbrev pub AreReady : List (List Edit) → List SeatBook → ℕ → List SeatReceipt → ℕ → Machine → NumberSet → Type 0
AreReady journal books seat earlier n machine ready =
    (key : Key) (number : ℕ) → IsNumberOf (store_of machine) key number
    → WasReady journal books seat earlier n key ↔ (Contains machine.held key × IsTrue (has ready number))

-- of the keys in use, the numbers are those of the keys of which another seat's book has a drop
-- with just this length
abbrev pub AreGone : List (List Edit) → List SeatBook → ℕ → ℕ → Machine → NumberSet → Type 0
AreGone journal books seat n machine gone =
    (key : Key) (number : ℕ) → IsNumberOf (store_of machine) key number
    → IsDroppedElsewhere journal books seat key n n ↔ IsTrue (has gone number)

-- a session holds pictures of keys in use alone, and caches none; no job is out
pub record IsBare (machine : Machine) : Type 0 where
  pub used : (key : Key) → Contains machine.held key → IsInUse machine.register.stream key
  pub cached_none : machine.cached ≡ []
  pub out_none : machine.jobs_out ≡ []

-- the journal's first entries were made, no fewer than any of the seat's receipts notes, and the
-- keys are those that are ready and those that other seats drop here
pub record IsReplayed (journal : List (List Edit)) (books : List SeatBook) (seat : ℕ) (earlier : List SeatReceipt)
    (replay : Replay) : Type 0 where
  pub own : replay.seat ≡ seat
  pub made : IsFront journal replay.session
  pub passed : All (λ receipt. length_in receipt ≤ reach replay) earlier
  pub bare : IsBare replay.session
  pub ready : AreReady journal books seat earlier (reach replay) replay.session replay.ready
  pub gone : AreGone journal books seat (reach replay) replay.session replay.gone

-- the edits stay, the stream that they lead to, and the numbers of its units' keys
pub record Stays (old new : Machine) : Type 0 where
  pub journal_stays : new.journal ≡ old.journal
  pub register_stays : new.register ≡ old.register
  pub numbers_stay : new.numbers ≡ old.numbers

-- no receipt, or one of that length
abbrev pub IsLastLength : List SeatReceipt → ℕ → Type 0
IsLastLength earlier n =
    (n ≡ 0) ⊎ ((receipt : SeatReceipt) × Contains earlier receipt × (length_in receipt ≡ n))

-- as many entries were made as the last receipt notes
pub record IsUpTo (journal : List (List Edit)) (books : List SeatBook) (seat : ℕ) (earlier : List SeatReceipt)
    (replay : Replay) : Type 0 where
  pub replayed : IsReplayed journal books seat earlier replay
  pub last : IsLastLength earlier (reach replay)

-- one entry more was made
pub record MakesEntry (old : Machine) (edits : List Edit) (ids : List ℕ) (new : Machine) : Type 0 where
  pub made : MakesAll old.register edits ids new.register
  pub journaled : new.journal ≡ old.journal ++ edits ∷ []

-- the receipt is of these edits, which were answered these ids, with this length
abbrev pub IsOf : SeatReceipt → List Edit → List ℕ → ℕ → Type 0
IsOf (receipts.Edit edit id m) edits ids n = (edits ≡ edit ∷ []) × (ids ≡ id ∷ []) × (n ≡ m)
IsOf (receipts.Group group m) edits ids n = (edits ≡ group.edits) × (ids ≡ group.ids) × (n ≡ m)
IsOf (receipts.Show id answer m) edits ids n = ⊥
IsOf (receipts.Drop id answer m) edits ids n = ⊥

-- an answer whether what was shown is possible now; where it is, its receipt may follow
pub record Sees (journal : List (List Edit)) (books : List SeatBook) (seat : ℕ) (earlier : List SeatReceipt) (old : Replay)
    (id : ℕ) (answer : Shown) (possible : Bool) (new : Replay) : Type 0 where
  pub is : IsTrue possible → IsPossible journal books seat earlier (reach old) old.session.register.stream id answer
  pub only : IsPossible journal books seat earlier (reach old) old.session.register.stream id answer → IsTrue possible
  pub stays : new.session.journal ≡ old.session.journal
  pub follows : IsTrue possible
      → IsReplayed journal books seat (earlier ++ receipts.Show id answer (reach old) ∷ []) new

-- an answer whether what came of a drop is possible now; where it is, its receipt may follow
pub record Loses (journal : List (List Edit)) (books : List SeatBook) (seat : ℕ) (earlier : List SeatReceipt) (old : Replay)
    (id : ℕ) (answer : Dropping) (possible : Bool) (new : Replay) : Type 0 where
  pub is : IsTrue possible → IsDropPossible journal books seat earlier (reach old) old.session.register.stream id answer
  pub only : IsDropPossible journal books seat earlier (reach old) old.session.register.stream id answer → IsTrue possible
  pub stays : new.session.journal ≡ old.session.journal
  pub follows : IsTrue possible
      → IsReplayed journal books seat (earlier ++ receipts.Drop id answer (reach old) ∷ []) new

-- an answer whether a receipt agrees; where it does, the next one may follow
pub record IsChecked (journal : List (List Edit)) (books : List SeatBook) (seat : ℕ) (earlier : List SeatReceipt)
    (receipt : SeatReceipt) (agrees : Bool) (new : Replay) : Type 0 where
  pub is : IsTrue agrees → Agrees journal books seat earlier receipt
  pub only : Agrees journal books seat earlier receipt → IsTrue agrees
  pub follows : IsTrue agrees → IsUpTo journal books seat (earlier ++ receipt ∷ []) new
