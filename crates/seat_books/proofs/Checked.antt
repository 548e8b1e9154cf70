-- Whether a receipt agrees, by a replay that has come as far.
use Rattle.std.proofs.Common.{◌≡◌, ℕ, ◌+◌, ◌<◌, ◌≤◌, Bool, true, false, cond, List, [], ◌∷◌, ◌++◌, length, take, Some, IsTrue, ap, sym, ◌∙◌, subst, refl, arith, eqb, inl, inr}
use Rattle.std.specs.Bool.{Decides}
use Rattle.std.specs.Prelude.{◌&&◌, slice_get, All, Contains, not, Result, Ok, Err, IfOk, OnOk}
use Rattle.std.proofs.lemmas.List.Elements.{All-contains, All-push, All-weaker, Contains-push}
use Rattle.std.proofs.lemmas.Option.{slice_get_within}
use Rattle.stand_in_device.specs.declared.picture.Picture.{Picture}
use Rattle.decode_jobs.specs.Keys.{Key}
use Rattle.stand_in_device.specs.KeyPictures.{picture_of_key}
use Rattle.picture_store.specs.Stores.{AreNumbered, AreOneToOne, IsNumberOf}
use Rattle.held_pictures.proofs.Members.{nowhere}
use Rattle.stream_edits.specs.declared.edits.Edit.{Edit}
use Rattle.stand_in_session.specs.Showing.{Shown}
use Rattle.stream_session.specs.declared.showing.Shown.TheVariants as shown
use Rattle.stream_edits.specs.Edits.{Register}
use Rattle.stream_edits.specs.Groups.{MakesAll}
use Rattle.stand_in_session.specs.Machines.{Machine}
use Rattle.stream_session.specs.Machines.{RefitsTo, empty, store_of, uncached}
use Rattle.stream_session.specs.Showing.{HasKey}
use Rattle.seat_books.specs.declared.book.SeatBook.{SeatBook}
use Rattle.seat_books.specs.declared.drop_table.DropTable.{DropTable}
use Rattle.seat_books.specs.declared.receipts.SeatReceipt.{SeatReceipt}
use Rattle.seat_books.specs.declared.receipts.SeatReceipt.TheVariants as receipts
use Rattle.seat_books.specs.declared.replay.Replay.{Replay}
use Rattle.seat_books.specs.Books.{Agrees, DropsKey, EditAgrees, IsPossible, LeadTo, ShowAgrees, ShowsReady, WasReady, is_noted, length_in}
use Rattle.seat_books.specs.Drops.{AreDrops, AreLost, drops_at}
use Rattle.seat_books.specs.Following.{AreGone, AreReady, IsChecked, IsOf, IsReplayed, IsUpTo, MakesEntry, Sees, Stays, reach}
use Rattle.seat_books.specs.Sets.{has}
use Rattle.seat_books.proofs.Fronts.{IsFront-next, LeadTo-next, length_next}
use Rattle.seat_books.proofs.Gone.{AreGone-lost}
use Rattle.seat_books.proofs.Numbers.{numbered_used, one_key}
use Rattle.seat_books.proofs.Readies.{AreGone-same, AreReady-entry, AreReady-plain, AreReady-shown}
use Rattle.stream_edits.proofs.OneEdit.{all_edits, some_same}
use Rattle.seat_books.proofs.Unique.{one_lead}

pub not_true : false ≡ true → ⊥
not_true is = cc

-- a replay that makes the next entry, caches nothing, and passes what other seats drop then
pub IsReplayed-next : (journal : List (List Edit)) (books : List SeatBook) (seat : ℕ) (earlier : List SeatReceipt)
    (old new : Replay) (made cleared : Machine) (edits : List Edit) (ids : List ℕ) (table : DropTable)
    → AreDrops journal books table → IsReplayed journal books seat earlier old → slice_get journal (reach old) ≡ Some edits
    → MakesEntry old.session edits ids made → RefitsTo (store_of old.session) made.register.stream (store_of made)
    → AreNumbered (store_of old.session) → cleared ≡ uncached made → new.session ≡ cleared
    → new.seat ≡ old.seat → AreLost cleared old.seat (drops_at table (length cleared.journal)) new.gone
    → ((number : ℕ) → has new.ready number ≡ (has old.ready number && not (has new.gone number)))
    → IsReplayed journal books seat earlier new
IsReplayed-next journal books seat earlier old new made cleared edits ids table tabled replayed stands makes refits numbered cleared_is
    new_is own lost without =
    let session_is : new.session ≡ uncached made = new_is ∙ cleared_is in
    let entry : MakesEntry old.session edits ids new.session = rw session_is (record { made = makes.made; journaled = makes.journaled }) in
    let more : reach new ≡ reach old + 1 = length_next old.session.journal new.session.journal edits entry.journaled in
    let leads : LeadTo journal (reach old + 1) made.register =
    LeadTo-next journal (reach old) old.session.register edits ids made.register replayed.made.leads stands makes.made in
    let length_is : length cleared.journal ≡ reach old + 1 = ap (λ (machine : Machine). length machine.journal) (sym new_is) ∙ more in
    let register_is : cleared.register ≡ made.register = ap (λ (machine : Machine). machine.register) cleared_is in
    let gone : AreGone journal books seat (reach old + 1) cleared new.gone =
    AreGone-lost journal books seat (reach old + 1) cleared table new.gone tabled
    (subst (λ (register : Register). LeadTo journal (reach old + 1) register) (sym register_is) leads)
    (subst (λ (n : ℕ). AreLost cleared seat (drops_at table n) new.gone) length_is
    (subst (λ (own : ℕ). AreLost cleared own (drops_at table (length cleared.journal)) new.gone) replayed.own lost)) in
    let gone_made : AreGone journal books seat (reach old + 1) made new.gone =
    AreGone-same journal books seat (reach old + 1) cleared made new.gone (sym register_is)
    (sym (ap (λ (machine : Machine). machine.numbers) cleared_is)) gone in
    let ready : AreReady journal books seat earlier (reach old + 1) made new.ready =
    AreReady-entry journal books seat earlier (reach old) old.session made old.ready new.ready new.gone replayed.passed
    replayed.made.leads leads replayed.bare refits numbered replayed.ready gone_made without in
    record {
      own = own ∙ replayed.own;
      made = IsFront-next journal old.session new.session edits ids replayed.made stands entry;
      passed =
          All-weaker (λ (receipt : SeatReceipt). length_in receipt ≤ reach old) (λ (receipt : SeatReceipt). length_in receipt ≤ reach new)
          (λ receipt below. omega (arith, more, below)) earlier replayed.passed;
      bare = rw session_is (record {
        used = λ key held. ((refits.held_are key).0 held).0;
        cached_none = refl;
        out_none = refits.out_stays ∙ replayed.bare.out_none;
      });
      ready =
          subst (λ (n : ℕ). AreReady journal books seat earlier n new.session new.ready) (sym more)
          (rw session_is ready);
      gone =
          subst (λ (n : ℕ). AreGone journal books seat n new.session new.gone) (sym more)
          (subst (λ (machine : Machine). AreGone journal books seat (reach old + 1) machine new.gone) (sym new_is) gone);
    }

-- a receipt of no picture that was shown or dropped follows
pub IsReplayed-plain : (journal : List (List Edit)) (books : List SeatBook) (seat : ℕ) (earlier : List SeatReceipt)
    (receipt : SeatReceipt) (replay : Replay)
    → ((key : Key) → ShowsReady journal (reach replay) key receipt → ⊥) → ((key : Key) → DropsKey journal key receipt → ⊥)
    → length_in receipt ≤ reach replay
    → IsReplayed journal books seat earlier replay → IsReplayed journal books seat (earlier ++ receipt ∷ []) replay
IsReplayed-plain journal books seat earlier receipt replay plain keeps below replayed = record {
  own = replayed.own;
  made = replayed.made;
  passed = All-push (λ (r : SeatReceipt). length_in r ≤ reach replay) earlier receipt replayed.passed below;
  bare = replayed.bare;
  ready = AreReady-plain journal books seat earlier receipt (reach replay) replay.session replay.ready plain keeps replayed.ready;
  gone = replayed.gone;
}

-- a receipt of a picture follows, whose key is ready then, unless another seat drops it
pub IsReplayed-shown : (journal : List (List Edit)) (books : List SeatBook) (seat : ℕ) (earlier : List SeatReceipt)
    (old new : Replay) (id number : ℕ) (key : Key)
    (picture : Picture) → new.seat ≡ old.seat → new.session ≡ old.session → new.gone ≡ old.gone
    → ((other : ℕ) → has new.ready other
    ≡ cond (has old.gone number) (has old.ready other) (cond (eqb number other) true (has old.ready other)))
    → HasKey old.session.register.stream id key → IsNumberOf (store_of old.session) key number → Contains old.session.held key
    → AreOneToOne (store_of old.session) (store_of old.session) → IsReplayed journal books seat earlier old
    → IsReplayed journal books seat (earlier ++ receipts.Show id (shown.Ready picture) (reach old) ∷ []) new
IsReplayed-shown journal books seat earlier old new id number key picture own session_is gone_is added has_key numbered held one replayed =
    let last : SeatReceipt = receipts.Show id (shown.Ready picture) (reach old) in
    let ready : AreReady journal books seat (earlier ++ last ∷ []) (reach old) old.session new.ready =
    AreReady-shown journal books seat earlier (reach old) old.session old.ready new.ready old.gone id number key picture
    replayed.made.leads has_key numbered held one added replayed.gone replayed.ready in
    record {
      own = own ∙ replayed.own;
      made = rw session_is replayed.made;
      passed =
          rw session_is
          (All-push (λ (receipt : SeatReceipt). length_in receipt ≤ reach old) earlier last replayed.passed (omega arith));
      bare = rw session_is replayed.bare;
      ready = rw session_is ready;
      gone = rw (session_is, gone_is) replayed.gone;
    }

-- no receipt of that kind agrees
pub unchecked : (journal : List (List Edit)) (books : List SeatBook) (seat : ℕ) (earlier : List SeatReceipt) (receipt : SeatReceipt) (new : Replay)
    → (Agrees journal books seat earlier receipt → ⊥) → IsChecked journal books seat earlier receipt false new
unchecked journal books seat earlier receipt new differs = record {
  is = λ agrees. absurd (not_true agrees);
  only = λ agrees. absurd (differs agrees);
  follows = λ agrees. absurd (not_true agrees);
}

module _ (journal : List (List Edit)) (books : List SeatBook) (seat : ℕ) (earlier : List SeatReceipt) (replay : Replay)
    (up : IsUpTo journal books seat earlier replay) (edits : List Edit) (ids : List ℕ) (n : ℕ) where
  -- a length that isn't above those before
  pub edit_too_low : n ≤ reach replay → EditAgrees journal (take seat books) earlier edits ids n → ⊥
  edit_too_low low agrees =
      elim up.last [
        | inl none ↦ omega (arith, none, low, agrees.counted)
        | inr last ↦
            let below : length_in last.0 < n = All-contains (λ (receipt : SeatReceipt). length_in receipt < n) earlier last.0 agrees.later last.1 in
            omega (arith, below, last.2, low)
      ]

  -- a length that the journal doesn't reach
  pub edit_too_long : length journal < n → EditAgrees journal (take seat books) earlier edits ids n → ⊥
  edit_too_long long agrees = omega (arith, long, agrees.counted, slice_get_within journal agrees.at edits agrees.stands)

  -- an entry of a lower seat
  pub edit_of_another : is_noted (take seat books) n ≡ true → EditAgrees journal (take seat books) earlier edits ids n → ⊥
  edit_of_another noted agrees = not_true (sym agrees.own ∙ noted)

  -- other edits
  pub other_edits : (at : ℕ) (others : List Edit) → n ≡ at + 1 → slice_get journal at ≡ Some others → (edits ≡ others → ⊥)
      → EditAgrees journal (take seat books) earlier edits ids n → ⊥
  other_edits at others counted stands differs agrees =
      let same : agrees.at ≡ at = omega (arith, counted, agrees.counted) in
      differs (some_same edits others (sym (subst (λ (k : ℕ). slice_get journal k ≡ Some edits) same agrees.stands) ∙ stands))

  -- a length as it has to be
  pub lengths_below : reach replay < n → All (λ (receipt : SeatReceipt). length_in receipt < n) earlier
  lengths_below low =
      All-weaker (λ (receipt : SeatReceipt). length_in receipt ≤ reach replay) (λ (receipt : SeatReceipt). length_in receipt < n)
      (λ receipt below. omega (arith, low, below)) earlier up.replayed.passed

-- no receipt of those edits agrees, where they don't
pub of_disagrees : (journal : List (List Edit)) (books : List SeatBook) (seat : ℕ) (earlier : List SeatReceipt) (receipt : SeatReceipt)
    (edits : List Edit) (ids : List ℕ) (n : ℕ) → IsOf receipt edits ids n
    → (EditAgrees journal (take seat books) earlier edits ids n → ⊥) → Agrees journal books seat earlier receipt → ⊥
of_disagrees journal books seat earlier (receipts.Edit edit id m) edits ids n of differs agrees =
    differs (rw (of.0, of.1, of.2) agrees)
of_disagrees journal books seat earlier (receipts.Group group m) edits ids n of differs agrees =
    differs (rw (of.0, of.1, of.2) agrees)
of_disagrees journal books seat earlier (receipts.Show id answer m) edits ids n of differs agrees = absurd of
of_disagrees journal books seat earlier (receipts.Drop id answer m) edits ids n of differs agrees = absurd of

-- a receipt of those edits shows no picture, and has their length
of_plain : (journal : List (List Edit)) (receipt : SeatReceipt) (edits : List Edit) (ids : List ℕ) (n m : ℕ)
    → IsOf receipt edits ids n → (key : Key) → ShowsReady journal m key receipt → ⊥
of_plain journal (receipts.Edit edit id k) edits ids n m of key shows = shows
of_plain journal (receipts.Group group k) edits ids n m of key shows = shows
of_plain journal (receipts.Show id answer k) edits ids n m of key shows = absurd of
of_plain journal (receipts.Drop id answer k) edits ids n m of key shows = shows

-- nor is it of one that was dropped
of_keeps : (journal : List (List Edit)) (receipt : SeatReceipt) (edits : List Edit) (ids : List ℕ) (n : ℕ)
    → IsOf receipt edits ids n → (key : Key) → DropsKey journal key receipt → ⊥
of_keeps journal (receipts.Edit edit id k) edits ids n of key drops = drops
of_keeps journal (receipts.Group group k) edits ids n of key drops = drops
of_keeps journal (receipts.Show id answer k) edits ids n of key drops = drops
of_keeps journal (receipts.Drop id answer k) edits ids n of key drops = absurd of

of_length : (receipt : SeatReceipt) (edits : List Edit) (ids : List ℕ) (n : ℕ) → IsOf receipt edits ids n
    → length_in receipt ≡ n
of_length (receipts.Edit edit id m) edits ids n of = sym of.2
of_length (receipts.Group group m) edits ids n of = sym of.2
of_length (receipts.Show id answer m) edits ids n of = absurd of
of_length (receipts.Drop id answer m) edits ids n of = absurd of

-- it agrees where they do
of_agrees : (journal : List (List Edit)) (books : List SeatBook) (seat : ℕ) (earlier : List SeatReceipt) (receipt : SeatReceipt)
    (edits : List Edit) (ids : List ℕ) (n : ℕ) → IsOf receipt edits ids n → EditAgrees journal (take seat books) earlier edits ids n
    → Agrees journal books seat earlier receipt
of_agrees journal books seat earlier (receipts.Edit edit id m) edits ids n of agrees = rw (of.0, of.1, of.2) at agrees
of_agrees journal books seat earlier (receipts.Group group m) edits ids n of agrees = rw (of.0, of.1, of.2) at agrees
of_agrees journal books seat earlier (receipts.Show id answer m) edits ids n of agrees = absurd of
of_agrees journal books seat earlier (receipts.Drop id answer m) edits ids n of agrees = absurd of

of_edits : (journal : List (List Edit)) (books : List SeatBook) (seat : ℕ) (earlier : List SeatReceipt) (receipt : SeatReceipt)
    (edits : List Edit) (ids : List ℕ) (n : ℕ) → IsOf receipt edits ids n → Agrees journal books seat earlier receipt
    → EditAgrees journal (take seat books) earlier edits ids n
of_edits journal books seat earlier (receipts.Edit edit id m) edits ids n of agrees = rw (of.0, of.1, of.2) agrees
of_edits journal books seat earlier (receipts.Group group m) edits ids n of agrees = rw (of.0, of.1, of.2) agrees
of_edits journal books seat earlier (receipts.Show id answer m) edits ids n of agrees = absurd of
of_edits journal books seat earlier (receipts.Drop id answer m) edits ids n of agrees = absurd of

-- the entry was made anew, and its ids are compared
pub checked_edit : (journal : List (List Edit)) (books : List SeatBook) (seat : ℕ) (earlier : List SeatReceipt) (replay mid new : Replay)
    (receipt : SeatReceipt) (edits : List Edit) (ids : List ℕ) (n : ℕ) (given : List ℕ) (agrees : Bool)
    → IsOf receipt edits ids n → IsUpTo journal books seat earlier replay → reach replay < n
    → is_noted (take seat books) n ≡ false → slice_get journal (reach mid) ≡ Some edits → n ≡ reach mid + 1
    → IsReplayed journal books seat earlier mid → MakesEntry mid.session edits given new.session → IsReplayed journal books seat earlier new
    → (IsTrue agrees → given ≡ ids) → (given ≡ ids → IsTrue agrees)
    → IsChecked journal books seat earlier receipt agrees new
checked_edit journal books seat earlier replay mid new receipt edits ids n given agrees of up low own stands counted replayed makes next
    same only =
    let more : reach new ≡ n = length_next mid.session.journal new.session.journal edits makes.journaled ∙ sym counted in
    let long : length_in receipt ≡ n = of_length receipt edits ids n of in
    record {
      is = λ so.
          of_agrees journal books seat earlier receipt edits ids n of (record {
            at = reach mid;
            before = mid.session.register;
            after = new.session.register;
            counted = counted;
            stands = stands;
            leads = replayed.made.leads;
            made = subst (λ (ks : List ℕ). MakesAll mid.session.register edits ks new.session.register) (same so) makes.made;
            later = lengths_below journal books seat earlier replay up edits ids n low;
            own = own;
          });
      only = λ agreed.
          let is = of_edits journal books seat earlier receipt edits ids n of agreed in
          let at : is.at ≡ reach mid = omega (arith, counted, is.counted) in
          let register : is.before ≡ mid.session.register =
          one_lead journal (reach mid) is.before mid.session.register
          (subst (λ (k : ℕ). LeadTo journal k is.before) at is.leads) replayed.made.leads in
          let made : MakesAll mid.session.register edits ids is.after =
          subst (λ (r : Register). MakesAll r edits ids is.after) register is.made in
          only (all_edits mid.session.register edits given ids new.session.register is.after makes.made made).given;
      follows = λ so. record {
        replayed =
            IsReplayed-plain journal books seat earlier receipt new (of_plain journal receipt edits ids n (reach new) of) (of_keeps journal receipt edits ids n of)
            (omega (arith, more, long)) next;
        last = inr (receipt, Contains-push earlier receipt, long ∙ sym more);
      };
    }

-- a show whose length isn't as it has to be
pub show_too_low : (journal : List (List Edit)) (books : List SeatBook) (seat : ℕ) (earlier : List SeatReceipt) (replay : Replay) (id : ℕ) (answer : Shown) (n : ℕ)
    → IsUpTo journal books seat earlier replay → n < reach replay → ShowAgrees journal books seat earlier id answer n → ⊥
show_too_low journal books seat earlier replay id answer n up low agrees =
    elim up.last [
      | inl none ↦ omega (arith, none, low)
      | inr last ↦
          let below : length_in last.0 ≤ n = All-contains (λ (receipt : SeatReceipt). length_in receipt ≤ n) earlier last.0 agrees.later last.1 in
          omega (arith, below, last.2, low)
    ]

-- what is seen is what is shown
pub checked_show : (journal : List (List Edit)) (books : List SeatBook) (seat : ℕ) (earlier : List SeatReceipt) (mid new : Replay)
    (id : ℕ) (answer : Shown) (n : ℕ) (agrees : Bool) → IsReplayed journal books seat earlier mid → reach mid ≡ n
    → Sees journal books seat earlier mid id answer agrees new
    → IsChecked journal books seat earlier (receipts.Show id answer n) agrees new
checked_show journal books seat earlier mid new id answer n agrees replayed reached sees =
    subst (λ (m : ℕ). IsChecked journal books seat earlier (receipts.Show id answer m) agrees new) reached (record {
      is = λ so. record {
        register = mid.session.register;
        leads = replayed.made.leads;
        later = replayed.passed;
        possible = sees.is so;
      };
      only = λ is.
          let register : is.register ≡ mid.session.register =
          one_lead journal (reach mid) is.register mid.session.register is.leads replayed.made.leads in
          sees.only (subst (λ (r : Register). IsPossible journal books seat earlier (reach mid) r.stream id answer) register is.possible);
      follows = λ so. record {
        replayed = sees.follows so;
        last =
            inr (
              receipts.Show id answer (reach mid),
              Contains-push earlier (receipts.Show id answer (reach mid)),
              ap length (sym sees.stays),
            );
      };
    })

-- what is seen, where it isn't a picture
pub Sees-plain : (journal : List (List Edit)) (books : List SeatBook) (seat : ℕ) (earlier : List SeatReceipt) (old new : Replay) (id : ℕ) (answer : Shown)
    (possible : Bool) → ((key : Key) → ShowsReady journal (reach old) key (receipts.Show id answer (reach old)) → ⊥)
    → new.session.journal ≡ old.session.journal → IsReplayed journal books seat earlier new
    → (IsTrue possible → IsPossible journal books seat earlier (reach old) old.session.register.stream id answer)
    → (IsPossible journal books seat earlier (reach old) old.session.register.stream id answer → IsTrue possible)
    → Sees journal books seat earlier old id answer possible new
Sees-plain journal books seat earlier old new id answer possible plain journal_is replayed is only =
    let same : reach new ≡ reach old = ap length journal_is in
    record {
      is = is;
      only = only;
      stays = journal_is;
      follows = λ so.
          IsReplayed-plain journal books seat earlier (receipts.Show id answer (reach old)) new
          (subst (λ (n : ℕ). (key : Key) → ShowsReady journal n key (receipts.Show id answer (reach old)) → ⊥) (sym same) plain)
          (λ key drops. drops) (omega (arith, same)) replayed;
    }

-- before the first edit and the first receipt
pub IsUpTo-new : (journal : List (List Edit)) (books : List SeatBook) (replay : Replay) → replay.session ≡ empty 1
    → IsUpTo journal books replay.seat [] replay
IsUpTo-new journal books replay session_is = record {
  replayed = record {
    own = refl;
    made = rw session_is (record {
      front = refl;
      leads = record { within = omega arith; replayed = refl };
    });
    passed = λ k d low. absurd (omega (arith, low));
    bare = rw session_is (record {
      used = λ key held. absurd (nowhere key held);
      cached_none = refl;
      out_none = refl;
    });
    ready = rw session_is (λ key number is. absurd (nowhere (Some key) (numbered_used (store_of (empty 1)) key number is)));
    gone = rw session_is (λ key number is. absurd (nowhere (Some key) (numbered_used (store_of (empty 1)) key number is)));
  };
  last = inl (ap (λ (machine : Machine). length machine.journal) session_is);
}

not_both : (b : Bool) → not b ≡ true → b ≡ true → ⊥
not_both true is so = not_true is
not_both false is so = not_true so

or_else : (b : Bool) → (b ≡ true → ⊥) → not b ≡ true
or_else true not_so = absurd (not_so refl)
or_else false not_so = refl

-- a unit waits whose key isn't among those that are ready
pub Sees-pending : (journal : List (List Edit)) (books : List SeatBook) (seat : ℕ) (earlier : List SeatReceipt) (replay : Replay) (id number : ℕ) (key : Key)
    (held : Bool) → IsReplayed journal books seat earlier replay → HasKey replay.session.register.stream id key
    → IsNumberOf (store_of replay.session) key number → Decides held (Contains replay.session.held key)
    → Sees journal books seat earlier replay id shown.Pending (not (held && has replay.ready number)) replay
Sees-pending journal books seat earlier replay id number key held replayed has_key numbered is =
    Sees-plain journal books seat earlier replay replay id shown.Pending (not (held && has replay.ready number)) (λ k shows. shows) refl replayed
    possible only
  where
    both_true : (a b : Bool) → IsTrue a → IsTrue b → (a && b) ≡ true
    both_true true true x y = refl
    both_true true false x y = y
    both_true false b x y = absurd (not_true x)

    each_true : (a b : Bool) → (a && b) ≡ true → IsTrue a × IsTrue b
    each_true true true so = (refl, refl)
    each_true true false so = absurd (not_true so)
    each_true false b so = absurd (not_true so)

    possible : IsTrue (not (held && has replay.ready number)) → IsPossible journal books seat earlier (reach replay) replay.session.register.stream id shown.Pending
    possible so = (
      key,
      has_key,
      λ was.
          let both = (replayed.ready key number numbered).0 was in
          not_both (held && has replay.ready number) so (both_true held (has replay.ready number) (is.1 both.0) both.1),
    )

    only : IsPossible journal books seat earlier (reach replay) replay.session.register.stream id shown.Pending → IsTrue (not (held && has replay.ready number))
    only waits =
        or_else (held && has replay.ready number) (λ so.
        let each = each_true held (has replay.ready number) so in
        let same : key ≡ waits.0 = one_key replay.session.register.stream id key waits.0 has_key waits.1 in
        waits.2 (subst (λ (k : Key). WasReady journal books seat earlier (reach replay) k) same
        ((replayed.ready key number numbered).1 (is.0 each.0, each.1))))

-- the picture of a unit's key was made, and its key is ready then
pub Sees-ready : (journal : List (List Edit)) (books : List SeatBook) (seat : ℕ) (earlier : List SeatReceipt) (old mid new : Replay) (id number : ℕ) (key : Key)
    (picture : Picture) → Stays old.session mid.session → new.seat ≡ mid.seat → new.session ≡ mid.session
    → new.gone ≡ mid.gone
    → ((other : ℕ) → has new.ready other
    ≡ cond (has mid.gone number) (has mid.ready other) (cond (eqb number other) true (has mid.ready other)))
    → HasKey mid.session.register.stream id key → IsNumberOf (store_of mid.session) key number → Contains mid.session.held key
    → picture ≡ picture_of_key key
    → AreOneToOne (store_of mid.session) (store_of mid.session) → IsReplayed journal books seat earlier mid
    → Sees journal books seat earlier old id (shown.Ready picture) true new
Sees-ready journal books seat earlier old mid new id number key picture stays own session_is gone_is added has_key numbered held right one replayed =
    let same : reach old ≡ reach mid = ap length (sym stays.journal_stays) in
    record {
      is = λ so. (key, subst (λ (r : Register). HasKey r.stream id key) stays.register_stays has_key, right);
      only = λ possible. refl;
      stays = ap (λ (machine : Machine). machine.journal) session_is ∙ stays.journal_stays;
      follows = λ so.
          subst (λ (n : ℕ). IsReplayed journal books seat (earlier ++ receipts.Show id (shown.Ready picture) n ∷ []) new) (sym same)
          (IsReplayed-shown journal books seat earlier mid new id number key picture own session_is gone_is added has_key numbered held one
          replayed);
    }

-- another picture isn't that of the unit's key
pub Sees-other : (journal : List (List Edit)) (books : List SeatBook) (seat : ℕ) (earlier : List SeatReceipt) (old new : Replay) (id : ℕ) (picture : Picture)
    → new.session.journal ≡ old.session.journal
    → (((key : Key) × HasKey old.session.register.stream id key × (picture ≡ picture_of_key key)) → ⊥)
    → Sees journal books seat earlier old id (shown.Ready picture) false new
Sees-other journal books seat earlier old new id picture journal_is wrong = record {
  is = λ so. absurd (not_true so);
  only = λ possible. absurd (wrong possible);
  stays = journal_is;
  follows = λ so. absurd (not_true so);
}

-- a unit without a key doesn't wait
pub Sees-no_key : (journal : List (List Edit)) (books : List SeatBook) (seat : ℕ) (earlier : List SeatReceipt) (old new : Replay) (id : ℕ)
    → new.session.journal ≡ old.session.journal
    → ((key : Key) → HasKey old.session.register.stream id key → ⊥)
    → Sees journal books seat earlier old id shown.Pending false new
Sees-no_key journal books seat earlier old new id journal_is none = record {
  is = λ so. absurd (not_true so);
  only = λ possible. absurd (none possible.0 possible.1);
  stays = journal_is;
  follows = λ so. absurd (not_true so);
}

-- what an answer says, where another says it
pub if_ok : {A E : Type 0} (r : Result A E) (P Q : A → Type 0) → ((x : A) → P x → Q x) → IfOk r P → IfOk r Q
if_ok (Ok x) P Q step is = step x is
if_ok (Err e) P Q step is = is

pub on_ok : {A E : Type 0} (r : Result A E) (P Q : Type 0) → (P → Q) → OnOk r P → OnOk r Q
on_ok (Ok x) P Q step is = step is
on_ok (Err e) P Q step is = is

pub not_false : (b : Bool) → not b ≡ false → b ≡ true
not_false true is = refl
not_false false is = absurd (not_true (sym is))
