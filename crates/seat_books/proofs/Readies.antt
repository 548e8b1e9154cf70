-- Which keys were shown ready, as entries are made and receipts are added.
use Rattle.std.proofs.Common.{◌≡◌, ◌⊎◌, ℕ, zero, suc, ◌+◌, ◌<◌, ◌≤◌, Bool, true, false, cond, List, [], ◌∷◌, ◌++◌, IsTrue, sym, ◌∙◌, ap, subst, refl, arith, eqb, inl, inr, length, length-append}
use Rattle.std.specs.Prelude.{◌&&◌, not, All, Contains, ◌↔◌}
use Rattle.std.proofs.lemmas.Bool.{eqb-true}
use Rattle.std.proofs.lemmas.Bool.Decides.{eqb_tells}
use Rattle.std.proofs.lemmas.List.Elements.{All-contains}
use Rattle.std.proofs.lemmas.Option.{slice_get_within}
use Rattle.stand_in_device.specs.declared.picture.Picture.{Picture}
use Rattle.decode_jobs.specs.Keys.{Key}
use Rattle.held_pictures.proofs.Members.{nowhere}
use Rattle.picture_store.specs.Stores.{AreNumbered, AreOneToOne, IsNumberOf}
use Rattle.stream_edits.specs.declared.edits.Edit.{Edit}
use Rattle.stand_in_session.specs.declared.jobs.Dropping.TheVariants as dropping
use Rattle.stream_session.specs.declared.showing.Shown.TheVariants as shown
use Rattle.stream_edits.specs.Edits.{Register}
use Rattle.stand_in_session.specs.Machines.{Machine}
use Rattle.stream_session.specs.Machines.{RefitsTo, store_of}
use Rattle.stream_session.specs.Showing.{HasKey}
use Rattle.seat_books.specs.declared.book.SeatBook.{SeatBook}
use Rattle.seat_books.specs.declared.number_set.NumberSet.{NumberSet}
use Rattle.seat_books.specs.declared.receipts.SeatReceipt.{SeatReceipt}
use Rattle.seat_books.specs.declared.receipts.SeatReceipt.TheVariants as receipts
use Rattle.seat_books.specs.Books.{DropsKey, IsDroppedElsewhere, IsInUse, LeadTo, ShowsReady, WasReady, length_in}
use Rattle.seat_books.specs.Following.{AreGone, AreReady, IsBare}
use Rattle.seat_books.specs.Sets.{has}
use Rattle.seat_books.proofs.Numbers.{numbered_used, one_key, same_number, used_key}
use Rattle.seat_books.proofs.Pushed.{among, get_before, get_last, get_push}
use Rattle.seat_books.proofs.Unique.{one_lead}

at_most_or : (k n : ℕ) → (k ≤ n) ⊎ (n < k)
at_most_or zero n = inl (omega arith)
at_most_or (suc k) zero = inr (omega arith)
at_most_or (suc k) (suc n) =
    elim (at_most_or k n) [ inl low ↦ inl (omega (arith, low)) | inr high ↦ inr (omega (arith, high)) ]

module _ (journal : List (List Edit)) (key : Key) where
  -- what stayed in use for longer did so for less
  shows_less : (n m : ℕ) (receipt : SeatReceipt) → n ≤ m → ShowsReady journal m key receipt → ShowsReady journal n key receipt
  shows_less n m (receipts.Edit edit id from) low is = absurd is
  shows_less n m (receipts.Group group from) low is = absurd is
  shows_less n m (receipts.Drop id answer from) low is = absurd is
  shows_less n m (receipts.Show id (shown.Ready picture) from) low is =
      (is.0, λ k register above below leads. is.1 k register above (omega (arith, low, below)) leads)
  shows_less n m (receipts.Show id shown.Pending from) low is = absurd is
  shows_less n m (receipts.Show id (shown.Fault fault) from) low is = absurd is
  shows_less n m (receipts.Show id shown.Empty from) low is = absurd is
  shows_less n m (receipts.Show id shown.NoSuchUnit from) low is = absurd is

  -- and where it is in use after an entry more, for one entry more
  shows_more : (n : ℕ) (register : Register) (receipt : SeatReceipt) → LeadTo journal (n + 1) register
      → IsInUse register.stream key → ShowsReady journal n key receipt → ShowsReady journal (n + 1) key receipt
  shows_more n register (receipts.Edit edit id from) leads used is = absurd is
  shows_more n register (receipts.Group group from) leads used is = absurd is
  shows_more n register (receipts.Drop id answer from) leads used is = absurd is
  shows_more n register (receipts.Show id (shown.Ready picture) from) leads used is = (is.0, still)
    where
      at_last : (k : ℕ) (other : Register) → n < k → k ≤ n + 1 → LeadTo journal k other → IsInUse other.stream key
      at_last k other above below there =
          let k_is : k ≡ n + 1 = omega (arith, above, below) in
          let same : register ≡ other = one_lead journal (n + 1) register other leads
          (subst (λ (m : ℕ). LeadTo journal m other) k_is there) in
          subst (λ (r : Register). IsInUse r.stream key) same used

      still : (k : ℕ) (other : Register) → from ≤ k → k ≤ n + 1 → LeadTo journal k other → IsInUse other.stream key
      still k other above below there =
          elim (at_most_or k n) [
            | inl low ↦ is.1 k other above low there
            | inr high ↦ at_last k other high below there
          ]
  shows_more n register (receipts.Show id shown.Pending from) leads used is = absurd is
  shows_more n register (receipts.Show id (shown.Fault fault) from) leads used is = absurd is
  shows_more n register (receipts.Show id shown.Empty from) leads used is = absurd is
  shows_more n register (receipts.Show id shown.NoSuchUnit from) leads used is = absurd is

  -- it is in use at the end
  shows_used : (n : ℕ) (register : Register) (receipt : SeatReceipt) → length_in receipt ≤ n → LeadTo journal n register
      → ShowsReady journal n key receipt → IsInUse register.stream key
  shows_used n register (receipts.Edit edit id from) above leads is = absurd is
  shows_used n register (receipts.Group group from) above leads is = absurd is
  shows_used n register (receipts.Drop id answer from) above leads is = absurd is
  shows_used n register (receipts.Show id (shown.Ready picture) from) above leads is =
      is.1 n register above (omega arith) leads
  shows_used n register (receipts.Show id shown.Pending from) above leads is = absurd is
  shows_used n register (receipts.Show id (shown.Fault fault) from) above leads is = absurd is
  shows_used n register (receipts.Show id shown.Empty from) above leads is = absurd is
  shows_used n register (receipts.Show id shown.NoSuchUnit from) above leads is = absurd is

-- what was dropped within some lengths was so within others that have its own
pub elsewhere_within : (journal : List (List Edit)) (books : List SeatBook) (seat : ℕ) (key : Key) (from to since until : ℕ)
    (is : IsDroppedElsewhere journal books seat key from to) → since ≤ length_in is.receipt → length_in is.receipt ≤ until
    → IsDroppedElsewhere journal books seat key since until
elsewhere_within journal books seat key from to since until is above below = record {
  other = is.other;
  book = is.book;
  receipt = is.receipt;
  apart = is.apart;
  stands = is.stands;
  among = is.among;
  drops = is.drops;
  above = above;
  below = below;
}

module _ (journal : List (List Edit)) (books : List SeatBook) (seat : ℕ) (key : Key) (earlier : List SeatReceipt)
    (receipt : SeatReceipt) (n : ℕ) where
  -- among one receipt more: it was so before, and isn't dropped by that; or it is shown by that
  pub was_among : WasReady journal books seat (earlier ++ receipt ∷ []) n key
      → (WasReady journal books seat earlier n key × (DropsKey journal key receipt → ⊥))
      ⊎ (ShowsReady journal n key receipt × (IsDroppedElsewhere journal books seat key (length_in receipt) n → ⊥))
  was_among was =
      elim (get_push earlier receipt was.receipt was.at was.stands) [
        | inl there ↦
            inl (
              record {
                at = was.at;
                receipt = was.receipt;
                stands = there;
                shows = was.shows;
                kept = λ later other after stands. was.kept later other after (get_before earlier receipt other later stands);
                nowhere = was.nowhere;
              },
              λ drops.
                  was.kept (length earlier) receipt (slice_get_within earlier was.at was.receipt there) (get_last earlier receipt) drops,
            )
        | inr last ↦
            inr (
              subst (λ (r : SeatReceipt). ShowsReady journal n key r) last.1 was.shows,
              λ is.
                  was.nowhere
                  (subst (λ (r : SeatReceipt). IsDroppedElsewhere journal books seat key (length_in r) n) (sym last.1) is),
            )
      ]

  pub was_before : WasReady journal books seat earlier n key → (DropsKey journal key receipt → ⊥)
      → WasReady journal books seat (earlier ++ receipt ∷ []) n key
  was_before was keeps = record {
    at = was.at;
    receipt = was.receipt;
    stands = get_before earlier receipt was.receipt was.at was.stands;
    shows = was.shows;
    kept = λ later other after stands drops.
        elim (get_push earlier receipt other later stands) [
          | inl there ↦ was.kept later other after there drops
          | inr last ↦ keeps (subst (λ (r : SeatReceipt). DropsKey journal key r) last.1 drops)
        ];
    nowhere = was.nowhere;
  }

  pub was_last : ShowsReady journal n key receipt → (IsDroppedElsewhere journal books seat key (length_in receipt) n → ⊥)
      → WasReady journal books seat (earlier ++ receipt ∷ []) n key
  was_last shows undropped = record {
    at = length earlier;
    receipt = receipt;
    stands = get_last earlier receipt;
    shows = shows;
    kept = λ later other after stands drops.
        let within : later < length (earlier ++ receipt ∷ []) = slice_get_within (earlier ++ receipt ∷ []) later other stands in
        let long : length (earlier ++ receipt ∷ []) ≡ length earlier + length (receipt ∷ []) = length-append earlier (receipt ∷ []) in
        omega (arith, after, within, long);
    nowhere = undropped;
  }

-- a receipt that shows no picture, and isn't of one that was dropped, leaves the keys as they are
pub AreReady-plain : (journal : List (List Edit)) (books : List SeatBook) (seat : ℕ) (earlier : List SeatReceipt)
    (receipt : SeatReceipt) (n : ℕ) (machine : Machine) (ready : NumberSet)
    → ((key : Key) → ShowsReady journal n key receipt → ⊥) → ((key : Key) → DropsKey journal key receipt → ⊥)
    → AreReady journal books seat earlier n machine ready
    → AreReady journal books seat (earlier ++ receipt ∷ []) n machine ready
AreReady-plain journal books seat earlier receipt n machine ready plain keeps are key number is = (
  λ was.
      elim (was_among journal books seat key earlier receipt n was) [
        | inl before ↦ (are key number is).0 before.0
        | inr last ↦ absurd (plain key last.0)
      ],
  λ both. was_before journal books seat key earlier receipt n ((are key number is).1 both) (keeps key),
)

never_true : false ≡ true → ⊥
never_true is = cc

bool_cases : (b : Bool) → (b ≡ true) ⊎ (b ≡ false)
bool_cases true = inl refl
bool_cases false = inr refl

-- a number that is kept where it isn't gone
kept_number : (before lost : Bool) → IsTrue before → (IsTrue lost → ⊥) → (before && not lost) ≡ true
kept_number true true was stays = absurd (stays refl)
kept_number true false was stays = refl
kept_number false lost was stays = absurd (never_true was)

was_kept : (before lost : Bool) → (before && not lost) ≡ true → IsTrue before × (IsTrue lost → ⊥)
was_kept true true is = absurd (never_true is)
was_kept true false is = (refl, λ so. never_true so)
was_kept false lost is = absurd (never_true is)

-- after one entry more those are ready that still are in use, and that no other seat drops then
module _ (journal : List (List Edit)) (books : List SeatBook) (seat : ℕ) (earlier : List SeatReceipt) (n : ℕ)
    (old new : Machine) (ready fewer gone : NumberSet) (passed : All (λ receipt. length_in receipt ≤ n) earlier)
    (led : LeadTo journal n old.register) (leads : LeadTo journal (n + 1) new.register) (bare : IsBare old)
    (refits : RefitsTo (store_of old) new.register.stream (store_of new)) (numbered : AreNumbered (store_of old))
    (are : AreReady journal books seat earlier n old ready) (are_gone : AreGone journal books seat (n + 1) new gone)
    (without : (number : ℕ) → has fewer number ≡ (has ready number && not (has gone number)))
    (key : Key) (number : ℕ) (is : IsNumberOf (store_of new) key number) where
  -- a key that stays in use has its number
  stays : (before : IsInUse old.register.stream key) → (numbered key before).0 ≡ number
  stays before =
      let was = numbered key before in
      (refits.numbers_stay key key was.0 number was.1 is).1 refl

  -- it was ready before
  abbrev was_so : WasReady journal books seat earlier (n + 1) key → WasReady journal books seat earlier n key
  was_so was = record {
    at = was.at;
    receipt = was.receipt;
    stands = was.stands;
    shows = shows_less journal key n (n + 1) was.receipt (omega arith) was.shows;
    kept = was.kept;
    nowhere = λ is.
        was.nowhere
        (elsewhere_within journal books seat key (length_in was.receipt) n (length_in was.receipt) (n + 1) is is.above
        (omega (arith, is.below)));
  }

  below : (was : WasReady journal books seat earlier (n + 1) key) → length_in was.receipt ≤ n
  below was =
      All-contains (λ (receipt : SeatReceipt). length_in receipt ≤ n) earlier was.receipt passed
      (among earlier was.at was.receipt was.stands)

  -- and no other seat drops it now
  undropped : WasReady journal books seat earlier (n + 1) key → IsTrue (has gone number) → ⊥
  undropped was so =
      let here = (are_gone key number is).1 so in
      was.nowhere
      (elsewhere_within journal books seat key (n + 1) (n + 1) (length_in was.receipt) (n + 1) here
      (omega (arith, below was, here.above)) here.below)

  still : WasReady journal books seat earlier (n + 1) key → Contains new.held key × IsTrue (has fewer number)
  still was =
      let before = was_so was in
      let in_use : IsInUse old.register.stream key = shows_used journal key n old.register was.receipt (below was) led before.shows in
      let both = (are key (numbered key in_use).0 (numbered key in_use).1).0 before in (
        (refits.held_are key).1 (numbered_used (store_of new) key number is, inl both.0),
        without number
            ∙ kept_number (has ready number) (has gone number) (subst (λ (m : ℕ). IsTrue (has ready m)) (stays in_use) both.1)
            (undropped was),
      )

  held_before : Contains new.held key → Contains old.held key
  held_before held =
      elim ((refits.held_are key).0 held).1 [
        | inl was ↦ was
        | inr cached ↦ absurd (nowhere key (subst (λ (keys : List Key). Contains keys key) bare.cached_none cached))
      ]

  since : Contains new.held key × IsTrue (has fewer number) → WasReady journal books seat earlier (n + 1) key
  since both =
      let each = was_kept (has ready number) (has gone number) (sym (without number) ∙ both.1) in
      let held : Contains old.held key = held_before both.0 in
      let in_use : IsInUse old.register.stream key = bare.used key held in
      let was = (are key (numbered key in_use).0 (numbered key in_use).1).1
      (held, subst (λ (m : ℕ). IsTrue (has ready m)) (sym (stays in_use)) each.0) in
      record {
        at = was.at;
        receipt = was.receipt;
        stands = was.stands;
        shows = shows_more journal key n new.register was.receipt leads (numbered_used (store_of new) key number is) was.shows;
        kept = was.kept;
        nowhere = λ dropped.
            elim (at_most_or (length_in dropped.receipt) n) [
              | inl low ↦
                  was.nowhere
                  (elsewhere_within journal books seat key (length_in was.receipt) (n + 1) (length_in was.receipt) n dropped
                  dropped.above low)
              | inr high ↦
                  each.1
                  ((are_gone key number is).0
                  (elsewhere_within journal books seat key (length_in was.receipt) (n + 1) (n + 1) (n + 1) dropped (omega (arith, high))
                  dropped.below))
            ];
      }

pub AreReady-entry : (journal : List (List Edit)) (books : List SeatBook) (seat : ℕ) (earlier : List SeatReceipt) (n : ℕ)
    (old new : Machine) (ready fewer gone : NumberSet)
    → All (λ receipt. length_in receipt ≤ n) earlier → LeadTo journal n old.register → LeadTo journal (n + 1) new.register
    → IsBare old → RefitsTo (store_of old) new.register.stream (store_of new) → AreNumbered (store_of old)
    → AreReady journal books seat earlier n old ready → AreGone journal books seat (n + 1) new gone
    → ((number : ℕ) → has fewer number ≡ (has ready number && not (has gone number)))
    → AreReady journal books seat earlier (n + 1) new fewer
AreReady-entry journal books seat earlier n old new ready fewer gone passed led leads bare refits numbered are are_gone without key number is = (
  still journal books seat earlier n old new ready fewer gone passed led leads bare refits numbered are are_gone without key number is,
  since journal books seat earlier n old new ready fewer gone passed led leads bare refits numbered are are_gone without key number is,
)

-- a number is added, or taken out
has_added : (before : Bool) (same : Bool) → IsTrue (cond same true before) → (same ≡ true) ⊎ IsTrue before
has_added before true is = inl refl
has_added before false is = inr is

-- the receipt of a picture that is shown, whose key has the number
module _ (journal : List (List Edit)) (books : List SeatBook) (seat : ℕ) (earlier : List SeatReceipt) (n : ℕ)
    (machine : Machine) (ready more gone : NumberSet) (id number : ℕ) (key : Key) (picture : Picture)
    (leads : LeadTo journal n machine.register) (has_key : HasKey machine.register.stream id key)
    (numbered : IsNumberOf (store_of machine) key number) (held : Contains machine.held key)
    (one : AreOneToOne (store_of machine) (store_of machine)) (are_gone : AreGone journal books seat n machine gone)
    (are : AreReady journal books seat earlier n machine ready) where
  abbrev last : SeatReceipt
  last = receipts.Show id (shown.Ready picture) n

  still_used : (k : ℕ) (register : Register) → n ≤ k → k ≤ n → LeadTo journal k register → IsInUse register.stream key
  still_used k register above below there =
      let k_is : k ≡ n = omega (arith, above, below) in
      let same : machine.register ≡ register = one_lead journal n machine.register register leads
      (subst (λ (m : ℕ). LeadTo journal m register) k_is there) in
      subst (λ (r : Register). IsInUse r.stream key) same (used_key machine.register.stream id key has_key)

  -- a key that it shows is the unit's
  the_key : (other : Key) → ShowsReady journal n other last → key ≡ other
  the_key other shows =
      let register : shows.0.0 ≡ machine.register = one_lead journal n shows.0.0 machine.register shows.0.1 leads in
      let has_other : HasKey machine.register.stream id other =
      subst (λ (r : Register). HasKey r.stream id other) register shows.0.2 in
      one_key machine.register.stream id key other has_key has_other

  -- where no other seat drops it now, it is ready then
  shown_here : has gone number ≡ false
      → ((other : ℕ) → has more other ≡ cond (eqb number other) true (has ready other))
      → AreReady journal books seat (earlier ++ last ∷ []) n machine more
  shown_here here added other m is = (to, from)
    where
      ready_now : WasReady journal books seat (earlier ++ last ∷ []) n key
      ready_now =
          was_last journal books seat key earlier last n ((machine.register, leads, has_key), still_used)
          (λ dropped. never_true (sym here ∙ (are_gone key number numbered).0 dropped))

      is_or : (b before : Bool) → IsTrue before → cond b true before ≡ true
      is_or true before so = refl
      is_or false before so = so

      eqb-same : (k : ℕ) → eqb k k ≡ true
      eqb-same k = grind arith

      to : WasReady journal books seat (earlier ++ last ∷ []) n other → Contains machine.held other × IsTrue (has more m)
      to was =
          elim (was_among journal books seat other earlier last n was) [
            | inl before ↦
                let both = (are other m is).0 before.0 in
                (both.0, added m ∙ is_or (eqb number m) (has ready m) both.1)
            | inr now ↦
                let same : key ≡ other = the_key other now.0 in
                let numbers : number ≡ m = (one key other number m numbered is).1 same in (
                  subst (λ (k : Key). Contains machine.held k) same held,
                  added m ∙ ap (λ (b : Bool). cond b true (has ready m)) (subst (λ (k : ℕ). eqb number k ≡ true) numbers (eqb-same number)),
                )
          ]

      from : Contains machine.held other × IsTrue (has more m) → WasReady journal books seat (earlier ++ last ∷ []) n other
      from both =
          elim (has_added (has ready m) (eqb number m) (sym (added m) ∙ both.1)) [
            | inl same ↦
                let keys : key ≡ other = (one key other number m numbered is).0 (eqb-true number m same) in
                subst (λ (k : Key). WasReady journal books seat (earlier ++ last ∷ []) n k) keys ready_now
            | inr before ↦
                was_before journal books seat other earlier last n ((are other m is).1 (both.0, before)) (λ drops. drops)
          ]

  -- where another seat does, nothing changes
  shown_gone : IsTrue (has gone number) → ((other : ℕ) → has more other ≡ has ready other)
      → AreReady journal books seat (earlier ++ last ∷ []) n machine more
  shown_gone so same_set other m is = (to, from)
    where
      to : WasReady journal books seat (earlier ++ last ∷ []) n other → Contains machine.held other × IsTrue (has more m)
      to was =
          elim (was_among journal books seat other earlier last n was) [
            | inl before ↦
                let both = (are other m is).0 before.0 in
                (both.0, same_set m ∙ both.1)
            | inr now ↦
                let same : key ≡ other = the_key other now.0 in
                let numbers : number ≡ m = (one key other number m numbered is).1 same in
                absurd (now.1 ((are_gone other m is).1 (subst (λ (k : ℕ). IsTrue (has gone k)) numbers so)))
          ]

      from : Contains machine.held other × IsTrue (has more m) → WasReady journal books seat (earlier ++ last ∷ []) n other
      from both =
          was_before journal books seat other earlier last n ((are other m is).1 (both.0, sym (same_set m) ∙ both.1))
          (λ drops. drops)

-- the key of a picture that is shown is ready, unless another seat drops it now
pub AreReady-shown : (journal : List (List Edit)) (books : List SeatBook) (seat : ℕ) (earlier : List SeatReceipt) (n : ℕ)
    (machine : Machine) (ready more gone : NumberSet) (id number : ℕ) (key : Key) (picture : Picture)
    → LeadTo journal n machine.register → HasKey machine.register.stream id key
    → IsNumberOf (store_of machine) key number → Contains machine.held key
    → AreOneToOne (store_of machine) (store_of machine)
    → ((other : ℕ) → has more other
    ≡ cond (has gone number) (has ready other) (cond (eqb number other) true (has ready other)))
    → AreGone journal books seat n machine gone → AreReady journal books seat earlier n machine ready
    → AreReady journal books seat (earlier ++ receipts.Show id (shown.Ready picture) n ∷ []) n machine more
AreReady-shown journal books seat earlier n machine ready more gone id number key picture leads has_key numbered held one added are_gone are =
    elim (bool_cases (has gone number)) [
      | inl is_gone ↦
          shown_gone journal books seat earlier n machine ready more gone id number key picture leads has_key numbered held one are_gone are
          is_gone
          (λ other.
          added other ∙ ap (λ (b : Bool). cond b (has ready other) (cond (eqb number other) true (has ready other))) is_gone)
      | inr is_here ↦
          shown_here journal books seat earlier n machine ready more gone id number key picture leads has_key numbered held one are_gone are
          is_here
          (λ other.
          added other ∙ ap (λ (b : Bool). cond b (has ready other) (cond (eqb number other) true (has ready other))) is_here)
    ]

-- a picture that was decoded is held, and its key isn't ready
pub AreReady-decoded : (journal : List (List Edit)) (books : List SeatBook) (seat : ℕ) (earlier : List SeatReceipt) (n : ℕ)
    (old new : Machine) (ready fewer : NumberSet) (key : Key) (number : ℕ) → new.register ≡ old.register → new.numbers ≡ old.numbers
    → IsNumberOf (store_of old) key number → (Contains old.held key → ⊥)
    → ((other : Key) → Contains new.held other ↔ (Contains old.held other ⊎ (other ≡ key)))
    → AreOneToOne (store_of old) (store_of old)
    → ((other : ℕ) → has fewer other ≡ cond (eqb number other) false (has ready other))
    → AreReady journal books seat earlier n old ready → AreReady journal books seat earlier n new fewer
AreReady-decoded journal books seat earlier n old new ready fewer key number register_is numbers_are numbered awaited held one taken are other m is =
    (to, from)
  where
    was_number : IsNumberOf (store_of old) other m
    was_number = same_number old new register_is numbers_are other m is

    to : WasReady journal books seat earlier n other → Contains new.held other × IsTrue (has fewer m)
    to was =
        let both = (are other m was_number).0 was in (
          (held other).1 (inl both.0),
          elim (eqb_tells number m) [
            | inl same ↦
                absurd (awaited (subst (λ (k : Key). Contains old.held k) (sym ((one key other number m numbered was_number).0 same.1)) both.0))
            | inr apart ↦ taken m ∙ (ap (λ (b : Bool). cond b false (has ready m)) apart.0 ∙ both.1)
          ],
        )

    from : Contains new.held other × IsTrue (has fewer m) → WasReady journal books seat earlier n other
    from both =
        elim (eqb_tells number m) [
          | inl same ↦ absurd (never_true (sym (ap (λ (b : Bool). cond b false (has ready m)) same.0) ∙ (sym (taken m) ∙ both.1)))
          | inr apart ↦
              let before : IsTrue (has ready m) = sym (ap (λ (b : Bool). cond b false (has ready m)) apart.0) ∙ (sym (taken m) ∙ both.1) in
              elim ((held other).0 both.0) [
                | inl was ↦ (are other m was_number).1 (was, before)
                | inr same ↦ absurd (apart.1 ((one key other number m numbered was_number).1 (sym same)))
              ]
        ]

-- the key of a picture that the seat drops isn't ready
pub AreReady-dropped : (journal : List (List Edit)) (books : List SeatBook) (seat : ℕ) (earlier : List SeatReceipt) (n : ℕ)
    (machine : Machine) (ready fewer : NumberSet) (id number : ℕ) (key : Key) → LeadTo journal n machine.register
    → HasKey machine.register.stream id key → IsNumberOf (store_of machine) key number
    → AreOneToOne (store_of machine) (store_of machine)
    → ((other : ℕ) → has fewer other ≡ cond (eqb number other) false (has ready other))
    → AreReady journal books seat earlier n machine ready
    → AreReady journal books seat (earlier ++ receipts.Drop id dropping.Dropped n ∷ []) n machine fewer
AreReady-dropped journal books seat earlier n machine ready fewer id number key leads has_key numbered one taken are other m is =
    (to, from)
  where
    last : SeatReceipt
    last = receipts.Drop id dropping.Dropped n

    to : WasReady journal books seat (earlier ++ last ∷ []) n other → Contains machine.held other × IsTrue (has fewer m)
    to was =
        elim (was_among journal books seat other earlier last n was) [
          | inl before ↦
              let both = (are other m is).0 before.0 in (
                both.0,
                elim (eqb_tells number m) [
                  | inl same ↦
                      let keys : key ≡ other = (one key other number m numbered is).0 same.1 in
                      absurd (before.1 (machine.register, leads, subst (λ (k : Key). HasKey machine.register.stream id k) keys has_key))
                  | inr apart ↦ taken m ∙ (ap (λ (b : Bool). cond b false (has ready m)) apart.0 ∙ both.1)
                ],
              )
          | inr now ↦ absurd now.0
        ]

    from : Contains machine.held other × IsTrue (has fewer m) → WasReady journal books seat (earlier ++ last ∷ []) n other
    from both =
        elim (eqb_tells number m) [
          | inl same ↦ absurd (never_true (sym (ap (λ (b : Bool). cond b false (has ready m)) same.0) ∙ (sym (taken m) ∙ both.1)))
          | inr apart ↦
              let before : IsTrue (has ready m) = sym (ap (λ (b : Bool). cond b false (has ready m)) apart.0) ∙ (sym (taken m) ∙ both.1) in
              was_before journal books seat other earlier last n ((are other m is).1 (both.0, before))
              (λ drops.
              let register : drops.0 ≡ machine.register = one_lead journal n drops.0 machine.register drops.1 leads in
              let has_other : HasKey machine.register.stream id other =
              subst (λ (r : Register). HasKey r.stream id other) register drops.2 in
              apart.1 ((one key other number m numbered is).1 (one_key machine.register.stream id key other has_key has_other)))
        ]

-- the keys that other seats drop stay, where the stream and its numbers do
pub AreGone-same : (journal : List (List Edit)) (books : List SeatBook) (seat n : ℕ) (old new : Machine) (gone : NumberSet)
    → new.register ≡ old.register → new.numbers ≡ old.numbers → AreGone journal books seat n old gone
    → AreGone journal books seat n new gone
AreGone-same journal books seat n old new gone register_is numbers_are are key number is =
    are key number (same_number old new register_is numbers_are key number is)
