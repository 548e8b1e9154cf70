-- The drops that books note, by the length of the journal.
use Rattle.std.specs.Prelude.{◌≡◌, ◌↔◌, ◌||◌, ◌&&◌, ◌≤◌, ℕ, Bool, not, List, [], Some, IsTrue, length, option_map, slice_get, unwrap_or, Contains}
use Rattle.decode_jobs.specs.Keys.{Key}
use Rattle.picture_store.specs.Stores.{IsNumberOf}
use Rattle.stream_edits.specs.declared.edits.Edit.{Edit}
use Rattle.stream_edits.specs.Streams.{Stream}
use Rattle.stand_in_session.specs.declared.jobs.Dropping.TheVariants.{Dropped}
use Rattle.stand_in_session.specs.Machines.{Machine}
use Rattle.stream_session.specs.Machines.{store_of}
use Rattle.stream_session.specs.Showing.{HasKey}
use Rattle.seat_books.specs.declared.book.SeatBook.{SeatBook}
use Rattle.seat_books.specs.declared.drop_table.DropTable.{DropTable}
use Rattle.seat_books.specs.declared.drop_table.SeatDrop.{SeatDrop}
use Rattle.seat_books.specs.declared.number_set.NumberSet.{NumberSet}
use Rattle.seat_books.specs.declared.receipts.SeatReceipt.{SeatReceipt}
use Rattle.seat_books.specs.declared.receipts.SeatReceipt.TheVariants.{Drop}
use Rattle.seat_books.specs.declared.replay.Replay.{Replay}
use Rattle.seat_books.specs.Sets.{has}

-- the drops in the table with the length
abbrev pub drops_at : DropTable → ℕ → List SeatDrop
drops_at table n = unwrap_or (option_map (λ drops. drops.items) (slice_get table.by_length.items n)) []

-- the seat's receipts have the drop, with the length
abbrev pub IsDropIn : ℕ → List SeatReceipt → ℕ → SeatDrop → Type 0
IsDropIn seat receipts n drop = (drop.seat ≡ seat) × Contains receipts (Drop drop.id Dropped n)

-- the books of the seats have the drop, with the length
abbrev pub IsDropOf : List SeatBook → ℕ → SeatDrop → Type 0
IsDropOf books n drop =
    (book : SeatBook) × (slice_get books drop.seat ≡ Some book) × Contains book.receipts.items (Drop drop.id Dropped n)

-- the table has the drops of the books with each length up to this one
abbrev pub AreDropsTo : ℕ → List SeatBook → DropTable → Type 0
AreDropsTo most books table =
    (n : ℕ) (drop : SeatDrop) → n ≤ most → Contains (drops_at table n) drop ↔ IsDropOf books n drop

-- the table has the drops of the books with each length up to that of the journal
abbrev pub AreDrops : List (List Edit) → List SeatBook → DropTable → Type 0
AreDrops journal books table = AreDropsTo (length journal) books table

-- one of the drops is of another seat than this one, and of a unit with the key
abbrev pub IsLost : Stream → ℕ → List SeatDrop → Key → Type 0
IsLost stream seat drops key =
    (drop : SeatDrop) × Contains drops drop × (drop.seat ≡ seat → ⊥) × HasKey stream drop.id key

-- of the keys in use, the numbers are those of the keys that the drops of other seats than this one
-- are of
abbrev pub AreLost : Machine → ℕ → List SeatDrop → NumberSet → Type 0
AreLost machine seat drops gone =
    (key : Key) (number : ℕ) → IsNumberOf (store_of machine) key number
    → IsLost machine.register.stream seat drops key ↔ IsTrue (has gone number)

-- the key of the unit that has the id, if it has one, isn't ready any more, and is one of those
-- that other seats drop
pub record LosesOne (old : Replay) (id : ℕ) (new : Replay) : Type 0 where
  pub lost : ℕ → Bool
  pub is : (key : Key) (number : ℕ) → IsNumberOf (store_of old.session) key number
      → HasKey old.session.register.stream id key ↔ IsTrue (lost number)
  pub gone : (number : ℕ) → has new.gone number ≡ (has old.gone number || lost number)
  pub ready : (number : ℕ) → has new.ready number ≡ (has old.ready number && not (lost number))
