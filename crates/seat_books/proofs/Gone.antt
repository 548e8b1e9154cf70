-- The keys that other seats drop, by the table of drops.
use Rattle.std.proofs.Common.{◌≡◌, ◌⊎◌, ℕ, ◌+◌, ◌≤◌, Bool, true, false, List, [], ◌∷◌, ◌++◌, take, IsTrue, Some, ap, sym, ◌∙◌, subst, refl, arith, inl, inr}
use Rattle.std.specs.Prelude.{◌&&◌, ◌||◌, not, slice_get, Contains}
use Rattle.std.proofs.lemmas.List.Elements.{Contains-append_left, Contains-push, Contains-push_cases}
use Rattle.decode_jobs.specs.Keys.{Key}
use Rattle.picture_store.specs.Stores.{IsNumberOf}
use Rattle.stream_edits.specs.declared.edits.Edit.{Edit}
use Rattle.stream_edits.specs.Edits.{Register}
use Rattle.stand_in_session.specs.declared.jobs.Dropping.TheVariants as dropping
use Rattle.stand_in_session.specs.Machines.{Machine}
use Rattle.stream_session.specs.Machines.{store_of}
use Rattle.stream_session.specs.Showing.{HasKey}
use Rattle.seat_books.specs.declared.book.SeatBook.{SeatBook}
use Rattle.seat_books.specs.declared.drop_table.DropTable.{DropTable}
use Rattle.seat_books.specs.declared.drop_table.SeatDrop.{SeatDrop}
use Rattle.seat_books.specs.declared.number_set.NumberSet.{NumberSet}
use Rattle.seat_books.specs.declared.receipts.SeatReceipt.{SeatReceipt}
use Rattle.seat_books.specs.declared.receipts.SeatReceipt.TheVariants as receipts
use Rattle.seat_books.specs.declared.replay.Replay.{Replay}
use Rattle.seat_books.specs.Books.{DropsKey, IsDroppedElsewhere, LeadTo, length_in}
use Rattle.seat_books.specs.Drops.{AreDrops, AreLost, IsLost, LosesOne, drops_at}
use Rattle.seat_books.specs.Following.{AreGone}
use Rattle.seat_books.specs.Sets.{has}
use Rattle.seat_books.proofs.Pushed.{take_next}
use Rattle.seat_books.proofs.Unique.{one_lead}

-- the drops of other seats that the table has with the length
module _ (journal : List (List Edit)) (books : List SeatBook) (seat n : ℕ) (machine : Machine) (table : DropTable)
    (tabled : AreDrops journal books table) (leads : LeadTo journal n machine.register) (key : Key) where
  lost_by : (other : ℕ) (book : SeatBook) (receipt : SeatReceipt) → (other ≡ seat → ⊥) → slice_get books other ≡ Some book
      → Contains book.receipts.items receipt → DropsKey journal key receipt → n ≤ length_in receipt → length_in receipt ≤ n
      → IsLost machine.register.stream seat (drops_at table n) key
  lost_by other book (receipts.Drop id dropping.Dropped m) apart stands among drops above below =
      let same : m ≡ n = omega (arith, above, below) in
      let drop : SeatDrop = record { seat = other; id = id } in
      let register : drops.0 ≡ machine.register =
      one_lead journal n drops.0 machine.register (subst (λ (k : ℕ). LeadTo journal k drops.0) same drops.1) leads in (
        drop,
        (tabled n drop leads.within).1
            (book, stands, subst (λ (k : ℕ). Contains book.receipts.items (receipts.Drop id dropping.Dropped k)) same among),
        apart,
        subst (λ (r : Register). HasKey r.stream id key) register drops.2,
      )
  lost_by other book (receipts.Drop id dropping.NotHeld m) apart stands among drops above below = absurd drops
  lost_by other book (receipts.Drop id dropping.NoSuchUnit m) apart stands among drops above below = absurd drops
  lost_by other book (receipts.Edit edit id m) apart stands among drops above below = absurd drops
  lost_by other book (receipts.Group group m) apart stands among drops above below = absurd drops
  lost_by other book (receipts.Show id answer m) apart stands among drops above below = absurd drops

  lost_so : IsDroppedElsewhere journal books seat key n n → IsLost machine.register.stream seat (drops_at table n) key
  lost_so is = lost_by is.other is.book is.receipt is.apart is.stands is.among is.drops is.above is.below

  dropped_so : IsLost machine.register.stream seat (drops_at table n) key → IsDroppedElsewhere journal books seat key n n
  dropped_so lost =
      let of = (tabled n lost.0 leads.within).0 lost.1 in
      record {
        other = lost.0.seat;
        book = of.0;
        receipt = receipts.Drop lost.0.id dropping.Dropped n;
        apart = lost.2;
        stands = of.1;
        among = of.2;
        drops = (machine.register, leads, lost.3);
        above = omega arith;
        below = omega arith;
      }

pub AreGone-lost : (journal : List (List Edit)) (books : List SeatBook) (seat n : ℕ) (machine : Machine) (table : DropTable)
    (gone : NumberSet) → AreDrops journal books table → LeadTo journal n machine.register
    → AreLost machine seat (drops_at table n) gone → AreGone journal books seat n machine gone
AreGone-lost journal books seat n machine table gone tabled leads lost key number is = (
  λ elsewhere. (lost key number is).0 (lost_so journal books seat n machine table tabled leads key elsewhere),
  λ so. dropped_so journal books seat n machine table tabled leads key ((lost key number is).1 so),
)

never_true : false ≡ true → ⊥
never_true is = cc

-- the drops that were passed
module _ (machine : Machine) (seat : ℕ) (drops : List SeatDrop) (i : ℕ) (drop : SeatDrop)
    (stands : slice_get drops i ≡ Some drop) where
  next : take (i + 1) drops ≡ take i drops ++ drop ∷ []
  next = take_next drops i drop stands

  -- what one of them with the next one is
  lost_before_or : (key : Key) → IsLost machine.register.stream seat (take (i + 1) drops) key
      → IsLost machine.register.stream seat (take i drops) key
      ⊎ ((drop.seat ≡ seat → ⊥) × HasKey machine.register.stream drop.id key)
  lost_before_or key lost =
      elim (Contains-push_cases (take i drops) drop lost.0 (subst (λ (ds : List SeatDrop). Contains ds lost.0) next lost.1)) [
        | inl before ↦ inl (lost.0, before, lost.2, lost.3)
        | inr last ↦
            inr (
              λ own. lost.2 (ap (λ (d : SeatDrop). d.seat) (sym last) ∙ own),
              subst (λ (d : SeatDrop). HasKey machine.register.stream d.id key) (sym last) lost.3,
            )
      ]

  lost_still : (key : Key) → IsLost machine.register.stream seat (take i drops) key
      → IsLost machine.register.stream seat (take (i + 1) drops) key
  lost_still key lost = (
    lost.0,
    subst (λ (ds : List SeatDrop). Contains ds lost.0) (sym next) (Contains-append_left (take i drops) (drop ∷ []) lost.0 lost.1),
    lost.2,
    lost.3,
  )

  lost_now : (key : Key) → (drop.seat ≡ seat → ⊥) → HasKey machine.register.stream drop.id key
      → IsLost machine.register.stream seat (take (i + 1) drops) key
  lost_now key apart has =
      (drop, subst (λ (ds : List SeatDrop). Contains ds drop) (sym next) (Contains-push (take i drops) drop), apart, has)

  -- a drop of the seat's own is passed over
  pub AreLost-own : (gone : NumberSet) → drop.seat ≡ seat → AreLost machine seat (take i drops) gone
      → AreLost machine seat (take (i + 1) drops) gone
  AreLost-own gone own are key number is = (
    λ lost.
        elim (lost_before_or key lost) [
          | inl before ↦ (are key number is).0 before
          | inr now ↦ absurd (now.0 own)
        ],
    λ so. lost_still key ((are key number is).1 so),
  )

  -- one of another seat is added
  pub AreLost-more : (mid new : Replay) → mid.session ≡ machine → (drop.seat ≡ seat → ⊥) → LosesOne mid drop.id new
      → AreLost machine seat (take i drops) mid.gone → AreLost machine seat (take (i + 1) drops) new.gone
  AreLost-more mid new session_is apart loses are key number is =
      let numbered : IsNumberOf (store_of mid.session) key number = rw session_is is in
      let its = loses.is key number numbered in (
        λ lost.
            loses.gone number
            ∙ elim (lost_before_or key lost) [
              | inl before ↦ or_left (has mid.gone number) (loses.lost number) ((are key number is).0 before)
              | inr now ↦ or_right (has mid.gone number) (loses.lost number) (its.0 (rw session_is now.1))
            ],
        λ so.
            elim (either (has mid.gone number) (loses.lost number) (sym (loses.gone number) ∙ so)) [
              | inl was ↦ lost_still key ((are key number is).1 was)
              | inr now ↦ lost_now key apart (rw session_is at (its.1 now))
            ],
      )
    where
      or_left : (a b : Bool) → IsTrue a → (a || b) ≡ true
      or_left true b so = refl
      or_left false b so = absurd (never_true so)

      or_right : (a b : Bool) → IsTrue b → (a || b) ≡ true
      or_right true b so = refl
      or_right false b so = so

      either : (a b : Bool) → (a || b) ≡ true → IsTrue a ⊎ IsTrue b
      either true b so = inl refl
      either false b so = inr so

-- before the first drop none is lost
pub AreLost-none : (machine : Machine) (seat : ℕ) (gone : NumberSet) → ((number : ℕ) → has gone number ≡ false)
    → AreLost machine seat [] gone
AreLost-none machine seat gone none key number is =
    (λ lost. absurd (omega (arith, lost.1.1)), λ so. absurd (never_true (sym (none number) ∙ so)))

-- numbers that are ready and not gone, after one is lost
pub ready_without : (start before after gone more : NumberSet) (lost : ℕ → Bool)
    → ((number : ℕ) → has before number ≡ (has start number && not (has gone number)))
    → ((number : ℕ) → has more number ≡ (has gone number || lost number))
    → ((number : ℕ) → has after number ≡ (has before number && not (lost number)))
    → (number : ℕ) → has after number ≡ (has start number && not (has more number))
ready_without start before after gone more lost were added without number =
    without number
    ∙ (ap (λ (b : Bool). b && not (lost number)) (were number)
    ∙ (both (has start number) (has gone number) (lost number)
    ∙ ap (λ (b : Bool). has start number && not b) (sym (added number))))
  where
    both : (a b c : Bool) → ((a && not b) && not c) ≡ (a && not (b || c))
    both true true c = refl
    both true false c = refl
    both false b c = refl

-- and before the first
pub ready_before : (start gone : NumberSet) → ((number : ℕ) → has gone number ≡ false)
    → (number : ℕ) → has start number ≡ (has start number && not (has gone number))
ready_before start gone none number =
    same (has start number) ∙ ap (λ (b : Bool). has start number && not b) (sym (none number))
  where
    same : (a : Bool) → a ≡ (a && not false)
    same true = refl
    same false = refl
