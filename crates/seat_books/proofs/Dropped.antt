-- Whether the receipt of a drop agrees, by a replay that has come as far.
use Rattle.std.proofs.Common.{◌≡◌, ℕ, ◌<◌, ◌≤◌, Bool, true, false, cond, List, length, Option, None, Some, IsTrue, ap, sym, ◌∙◌, subst, refl, arith, eqb, inl, inr}
use Rattle.std.specs.Bool.{Decides}
use Rattle.std.specs.Prelude.{slice_get, option_and_then}
use Rattle.std.proofs.lemmas.List.Elements.{All-contains, All-push, Contains-push}
use Rattle.decode_jobs.specs.Keys.{Key}
use Rattle.picture_store.specs.Stores.{AreOneToOne, IsNumberOf}
use Rattle.stream_edits.specs.declared.edits.Edit.{Edit}
use Rattle.stream_edits.specs.Edits.{Register}
use Rattle.stream_edits.specs.Streams.{Stream, place_of}
use Rattle.stand_in_session.specs.declared.jobs.Dropping.{Dropping}
use Rattle.stand_in_session.specs.declared.jobs.Dropping.TheVariants as dropping
use Rattle.stream_session.specs.declared.showing.Shown.TheVariants as shown
use Rattle.stand_in_session.specs.Machines.{Machine}
use Rattle.stream_session.specs.Machines.{store_of}
use Rattle.stream_session.specs.Showing.{HasKey, keys_in}
use Rattle.seat_books.specs.declared.book.SeatBook.{SeatBook}
use Rattle.seat_books.specs.declared.receipts.SeatReceipt.{SeatReceipt}
use Rattle.seat_books.specs.declared.receipts.SeatReceipt.TheVariants as receipts
use Rattle.seat_books.specs.declared.replay.Replay.{Replay}
use Rattle.seat_books.specs.Books.{DropAgrees, DropsKey, HasNoKey, IsDropPossible, length_in}
use Rattle.seat_books.specs.Following.{IsChecked, IsReplayed, IsUpTo, Loses, Sees, reach}
use Rattle.seat_books.specs.Sets.{has}
use Rattle.seat_books.proofs.Checked.{IsReplayed-plain, not_true}
use Rattle.seat_books.proofs.Readies.{AreReady-dropped}
use Rattle.seat_books.proofs.Unique.{one_lead}

-- a drop whose length isn't as it has to be
pub drop_too_low : (journal : List (List Edit)) (books : List SeatBook) (seat : ℕ) (earlier : List SeatReceipt)
    (replay : Replay) (id : ℕ) (answer : Dropping) (n : ℕ) → IsUpTo journal books seat earlier replay → n < reach replay
    → DropAgrees journal books seat earlier id answer n → ⊥
drop_too_low journal books seat earlier replay id answer n up low agrees =
    elim up.last [
      | inl none ↦ omega (arith, none, low)
      | inr last ↦
          let below = All-contains (λ (receipt : SeatReceipt). length_in receipt ≤ n) earlier last.0 agrees.later last.1 in
          omega (arith, below, last.2, low)
    ]

-- what may be answered to the drop is what was
pub checked_drop : (journal : List (List Edit)) (books : List SeatBook) (seat : ℕ) (earlier : List SeatReceipt)
    (mid new : Replay) (id : ℕ) (answer : Dropping) (n : ℕ) (agrees : Bool) → IsReplayed journal books seat earlier mid
    → reach mid ≡ n → Loses journal books seat earlier mid id answer agrees new
    → IsChecked journal books seat earlier (receipts.Drop id answer n) agrees new
checked_drop journal books seat earlier mid new id answer n agrees replayed reached loses =
    subst (λ (m : ℕ). IsChecked journal books seat earlier (receipts.Drop id answer m) agrees new) reached (record {
      is = λ so. record {
        register = mid.session.register;
        leads = replayed.made.leads;
        later = replayed.passed;
        possible = loses.is so;
      };
      only = λ is.
          let register : is.register ≡ mid.session.register =
          one_lead journal (reach mid) is.register mid.session.register is.leads replayed.made.leads in
          loses.only
          (subst (λ (r : Register). IsDropPossible journal books seat earlier (reach mid) r.stream id answer) register is.possible);
      follows = λ so. record {
        replayed = loses.follows so;
        last =
            inr (
              receipts.Drop id answer (reach mid),
              Contains-push earlier (receipts.Drop id answer (reach mid)),
              ap length (sym loses.stays),
            );
      };
    })

-- what may be answered, where nothing was dropped
pub Loses-plain : (journal : List (List Edit)) (books : List SeatBook) (seat : ℕ) (earlier : List SeatReceipt) (replay : Replay)
    (id : ℕ) (answer : Dropping) (possible : Bool) → (answer ≡ dropping.Dropped → ⊥)
    → IsReplayed journal books seat earlier replay
    → (IsTrue possible → IsDropPossible journal books seat earlier (reach replay) replay.session.register.stream id answer)
    → (IsDropPossible journal books seat earlier (reach replay) replay.session.register.stream id answer → IsTrue possible)
    → Loses journal books seat earlier replay id answer possible replay
Loses-plain journal books seat earlier replay id answer possible other replayed is only = record {
  is = is;
  only = only;
  stays = refl;
  follows = λ so.
      IsReplayed-plain journal books seat earlier (receipts.Drop id answer (reach replay)) replay (λ key shows. shows)
      (λ key drops. keeps answer other key drops) (omega arith) replayed;
}
  where
    keeps : (other : Dropping) → (other ≡ dropping.Dropped → ⊥) → (key : Key)
        → DropsKey journal key (receipts.Drop id other (reach replay)) → ⊥
    keeps dropping.Dropped apart key drops = apart refl
    keeps dropping.NotHeld apart key drops = drops
    keeps dropping.NoSuchUnit apart key drops = drops

-- that no picture was held of a unit without a key
pub Loses-keyless : (journal : List (List Edit)) (books : List SeatBook) (seat : ℕ) (earlier : List SeatReceipt)
    (replay : Replay) (id : ℕ) (keyless : Bool) → IsReplayed journal books seat earlier replay → keyless ≡ true
    → Decides keyless (HasNoKey replay.session.register.stream id)
    → Loses journal books seat earlier replay id dropping.NotHeld keyless replay
Loses-keyless journal books seat earlier replay id keyless replayed so none =
    Loses-plain journal books seat earlier replay id dropping.NotHeld keyless (λ same. cc) replayed
    (λ is. inl (none.0 is)) (λ possible. so)

-- or of one that may wait
pub Loses-waits : (journal : List (List Edit)) (books : List SeatBook) (seat : ℕ) (earlier : List SeatReceipt)
    (replay : Replay) (id : ℕ) (keyless waits : Bool) → IsReplayed journal books seat earlier replay → keyless ≡ false
    → Decides keyless (HasNoKey replay.session.register.stream id)
    → Sees journal books seat earlier replay id shown.Pending waits replay
    → Loses journal books seat earlier replay id dropping.NotHeld waits replay
Loses-waits journal books seat earlier replay id keyless waits replayed not_so none sees =
    Loses-plain journal books seat earlier replay id dropping.NotHeld waits (λ same. cc) replayed
    (λ is. inr (sees.is is)) only
  where
    only : IsDropPossible journal books seat earlier (reach replay) replay.session.register.stream id dropping.NotHeld
        → IsTrue waits
    only (inl no_key) = absurd (not_true (sym not_so ∙ none.1 no_key))
    only (inr may) = sees.only may

-- that the picture was dropped: its key was forgotten
pub Loses-dropped : (journal : List (List Edit)) (books : List SeatBook) (seat : ℕ) (earlier : List SeatReceipt)
    (old new : Replay) (id : ℕ) (valid : Bool) → IsReplayed journal books seat earlier old
    → Decides valid ((key : Key) × HasKey old.session.register.stream id key) → new.seat ≡ old.seat
    → new.session ≡ old.session → new.gone ≡ old.gone
    → ((key : Key) → HasKey old.session.register.stream id key → (number : ℕ) × IsNumberOf (store_of old.session) key number
    × AreOneToOne (store_of old.session) (store_of old.session)
    × ((other : ℕ) → has new.ready other ≡ cond (eqb number other) false (has old.ready other)))
    → Loses journal books seat earlier old id dropping.Dropped valid new
Loses-dropped journal books seat earlier old new id valid replayed is own session_is gone_is forgets = record {
  is = is.0;
  only = is.1;
  stays = ap (λ (machine : Machine). machine.journal) session_is;
  follows = λ so.
      let has_key = is.0 so in
      let forgot = forgets has_key.0 has_key.1 in
      let last : SeatReceipt = receipts.Drop id dropping.Dropped (reach old) in
      let ready =
      AreReady-dropped journal books seat earlier (reach old) old.session old.ready new.ready id forgot.0 has_key.0
      replayed.made.leads has_key.1 forgot.1 forgot.2 forgot.3 replayed.ready in
      record {
        own = own ∙ replayed.own;
        made = rw session_is replayed.made;
        passed =
            rw session_is
            (All-push (λ (receipt : SeatReceipt). length_in receipt ≤ reach old) earlier last replayed.passed (omega arith));
        bare = rw session_is replayed.bare;
        ready = rw session_is ready;
        gone = rw (session_is, gone_is) replayed.gone;
      };
}

-- a unit that has a key isn't one that has none
pub key_or_none : (stream : Stream) (id : ℕ) (key : Key) → HasKey stream id key → HasNoKey stream id → ⊥
key_or_none stream id key has none = differ (sym has ∙ none)
  where
    differ : Some (Some key) ≡ Some None → ⊥
    differ same = cc

-- nor is one that isn't there
pub place_or_none : (stream : Stream) (id : ℕ) → place_of stream id ≡ None → HasNoKey stream id → ⊥
place_or_none stream id absent none = differ (place_of stream id) absent none
  where
    differ : (place : Option ℕ) → place ≡ None → option_and_then (slice_get (keys_in stream)) place ≡ Some None → ⊥
    differ None is has = cc
    differ (Some at) is has = cc
