-- A job that is taken, decoded and lands leaves a replay as far as it was.
use Rattle.std.proofs.Common.{◌≡◌, ◌⊎◌, ℕ, zero, suc, ◌≤◌, false, cond, List, [], ◌∷◌, ◌++◌, length, None, Some, ap, sym, ◌∙◌, subst, refl, arith, eqb, inl, inr}
use Rattle.std.specs.Prelude.{◌↔◌, All, Contains, Ok, remove, slice_get}
use Rattle.std.proofs.lemmas.List.Elements.{All-contains}
use Rattle.stand_in_device.specs.Jobs.{JobValue}
use Rattle.stand_in_device.specs.KeyPictures.{IsMade, IsPicture}
use Rattle.decode_jobs.specs.Keys.{Key}
use Rattle.picture_keys.specs.Known.{key_of, known_after}
use Rattle.picture_store.specs.declared.answers.Landing.{Landing}
use Rattle.picture_store.specs.declared.answers.Landing.TheVariants as landings
use Rattle.stand_in_session.specs.Machines.{OutValue, StoreValue, Machine}
use Rattle.picture_store.specs.Stores.{AreOneToOne, IsNumberOf}
use Rattle.picture_store.specs.Jobs as pictures
use Rattle.stream_edits.specs.declared.edits.Edit.{Edit}
use Rattle.stream_edits.specs.Edits.{Register}
use Rattle.stand_in_session.specs.Jobs.{AnswersTakeWithUnit, AnswersLand}
use Rattle.stream_session.specs.Jobs.{IsFirstWith}
use Rattle.stream_session.proofs.ByNumber.{same_machine}
use Rattle.stream_session.specs.Machines.{store_of}
use Rattle.stream_session.specs.Showing.{HasKey}
use Rattle.seat_books.specs.declared.book.SeatBook.{SeatBook}
use Rattle.seat_books.specs.declared.number_set.NumberSet.{NumberSet}
use Rattle.seat_books.specs.declared.receipts.SeatReceipt.{SeatReceipt}
use Rattle.seat_books.specs.declared.replay.Replay.{Replay}
use Rattle.seat_books.specs.Books.{IsInUse, LeadTo, length_in}
use Rattle.seat_books.specs.Following.{AreGone, AreReady, IsReplayed, Stays, reach}
use Rattle.seat_books.specs.Sets.{has}
use Rattle.seat_books.proofs.Fronts.{IsFront-same}
use Rattle.seat_books.proofs.Numbers.{first_has, same_number, same_numbers}
use Rattle.seat_books.proofs.Readies.{AreGone-same, AreReady-decoded}

-- the only element of a list
lone : {X : Type 0} (x y : X) → Contains (x ∷ []) y → y ≡ x
lone x y (zero, within, is) = sym is
lone x y (suc at, within, is) = absurd (omega (arith, within))

-- a job that is taken where none is out
module _ (before mid : Machine) (id : ℕ) (job : JobValue) (told : AnswersTakeWithUnit before (Ok (Some (id, job))) mid)
    (none : before.jobs_out ≡ []) where
  abbrev takes : pictures.Takes IsPicture (store_of before) job (store_of mid)
  takes = told.0.0

  -- what is out then
  abbrev pub given : OutValue
  given = record {
    number = job.number;
    key = key_of (known_after [] takes.gives.before) takes.gives.plan.requests;
    input = job.input;
  }

  pub out_one : mid.jobs_out ≡ given ∷ []
  out_one = ap (λ (store : StoreValue). store.jobs_out) takes.gives.new_is ∙ ap (λ (jobs : List OutValue). jobs ++ given ∷ []) none

  pub stays_take : Stays before mid
  stays_take = record {
    journal_stays = told.0.1.0;
    register_stays = told.0.1.1;
    numbers_stay = ap (λ (store : StoreValue). store.numbers) takes.gives.new_is;
  }

  pub held_stays : mid.held ≡ before.held
  held_stays = ap (λ (store : StoreValue). store.held) takes.gives.new_is

  pub cached_stays : mid.cached ≡ before.cached
  cached_stays = ap (λ (store : StoreValue). store.cached) takes.gives.new_is

  pub due : pictures.IsDue (store_of before) given.key
  due = takes.gives.due

  -- its unit has its key
  pub given_has : (journal : List (List Edit)) (n : ℕ) → LeadTo journal n mid.register → HasKey mid.register.stream id given.key
  given_has journal n leads =
      let unit = told.1 in
      let same : unit.0 ≡ given = lone given unit.0 (subst (λ (jobs : List OutValue). Contains jobs unit.0) out_one unit.1) in
      first_has journal n mid.register id given.key leads
      (subst (λ (out : OutValue). IsFirstWith mid.register.stream out.key id) same unit.3)

-- the only job that is out, and what is left without it
only_out : (given out : OutValue) (at : ℕ) → slice_get (given ∷ []) at ≡ Some out → (out ≡ given) × (remove (given ∷ []) at ≡ [])
only_out given out zero is = (cc, refl)
only_out given out (suc at) is = absurd (cc)

-- what a session is after the only job that was out has landed
record Landed (before new : Machine) (key : Key) : Type 0 where
  stays : Stays before new
  held : (other : Key) → Contains new.held other ↔ (Contains before.held other ⊎ (other ≡ key))
  used : IsInUse before.register.stream key
  awaited : Contains before.held key → ⊥
  cached_stays : new.cached ≡ before.cached
  out_none : new.jobs_out ≡ []

module _ (before mid new : Machine) (id : ℕ) (job : JobValue) (told : AnswersTakeWithUnit before (Ok (Some (id, job))) mid)
    (none : before.jobs_out ≡ []) where
  abbrev out : OutValue
  out = given before mid id job told none

  is_out : mid.jobs_out ≡ out ∷ []
  is_out = out_one before mid id job told none

  abbrev taken : Stays before mid
  taken = stays_take before mid id job told none

  stays_both : new.journal ≡ mid.journal → new.register ≡ mid.register → new.numbers ≡ mid.numbers → Stays before new
  stays_both journal register numbers = record {
    journal_stays = journal ∙ taken.journal_stays;
    register_stays = register ∙ taken.register_stays;
    numbers_stay = numbers ∙ taken.numbers_stay;
  }

  lands : (landing : Landing) → AnswersLand mid job landing new → Landed before new out.key
  lands landings.Foreign answer =
      absurd (All-contains (λ (other : OutValue). pictures.IsSameJob job other → ⊥) mid.jobs_out out answer.0.2.0
      (subst (λ (jobs : List OutValue). Contains jobs out) (sym is_out) (0, omega arith, refl)) (refl, refl))
  lands landings.Stale answer =
      let at = answer.0.2.0 in
      let stands : slice_get (out ∷ []) at ≡ Some answer.0.2.1 =
      subst (λ (jobs : List OutValue). slice_get jobs at ≡ Some answer.0.2.1) is_out answer.0.2.2.stands in
      let same = (only_out out answer.0.2.1 at stands).0 in
      let in_use : IsInUse mid.register.stream out.key =
      subst (λ (register : Register). IsInUse register.stream out.key) (sym taken.register_stays) (due before mid id job told none).in_use in
      elim answer.0.2.3.0 [
        | inl unused ↦ absurd (unused (subst (λ (other : OutValue). IsInUse mid.register.stream other.key) (sym same) in_use))
        | inr held ↦
            absurd ((due before mid id job told none).awaited
            (subst (λ (keys : List Key). Contains keys out.key) (held_stays before mid id job told none)
            (subst (λ (other : OutValue). Contains mid.held other.key) same held)))
      ]
  lands landings.Taken answer =
      let at = answer.0.2.0 in
      let stands : slice_get (out ∷ []) at ≡ Some answer.0.2.1 =
      subst (λ (jobs : List OutValue). slice_get jobs at ≡ Some answer.0.2.1) is_out answer.0.2.2.stands in
      let only = only_out out answer.0.2.1 at stands in
      let new_is = answer.0.2.3.4 in
      record {
        stays = stays_both answer.1.0 answer.1.1 (ap (λ (store : StoreValue). store.numbers) new_is);
        held = λ other.
            subst (λ (keys : List Key). Contains new.held other ↔ (Contains keys other ⊎ (other ≡ out.key)))
            (held_stays before mid id job told none)
            (subst (λ (job : OutValue). Contains new.held other ↔ (Contains mid.held other ⊎ (other ≡ job.key))) only.0 (answer.0.2.3.2 other));
        used = (due before mid id job told none).in_use;
        awaited = (due before mid id job told none).awaited;
        cached_stays = ap (λ (store : StoreValue). store.cached) new_is ∙ cached_stays before mid id job told none;
        out_none =
            ap (λ (store : StoreValue). store.jobs_out) new_is
            ∙ subst (λ (jobs : List OutValue). remove jobs at ≡ []) (sym is_out) only.1;
      }

-- the unit's key was forgotten, its picture was decoded, and the result lands
pub IsReplayed-decoded : (journal : List (List Edit)) (books : List SeatBook) (seat : ℕ) (earlier : List SeatReceipt)
    (old new : Replay) (mid : Machine) (id : ℕ) (job : JobValue) (landing : Landing) → new.seat ≡ old.seat
    → new.gone ≡ old.gone → (told : AnswersTakeWithUnit old.session (Ok (Some (id, job))) mid)
    → ((key : Key) → HasKey mid.register.stream id key → (number : ℕ) × IsNumberOf (store_of mid) key number
    × AreOneToOne (store_of mid) (store_of mid)
    × ((other : ℕ) → has new.ready other ≡ cond (eqb number other) false (has old.ready other)))
    → AnswersLand mid job landing new.session → IsReplayed journal books seat earlier old → IsReplayed journal books seat earlier new
IsReplayed-decoded journal books seat earlier old new mid id job landing own gone_is told forgets lands_so replayed =
    let none : old.session.jobs_out ≡ [] = replayed.bare.out_none in
    let out : OutValue = given old.session mid id job told none in
    let landed : Landed old.session new.session out.key = lands old.session mid new.session id job told none landing lands_so in
    let taken : Stays old.session mid = stays_take old.session mid id job told none in
    let leads : LeadTo journal (reach old) mid.register =
    subst (λ (register : Register). LeadTo journal (reach old) register) (sym taken.register_stays) replayed.made.leads in
    let forgot = forgets out.key (given_has old.session mid id job told none journal (reach old) leads) in
    let same : reach old ≡ reach new = ap length (sym landed.stays.journal_stays) in
    record {
      own = own ∙ replayed.own;
      made = IsFront-same journal old.session new.session landed.stays.journal_stays landed.stays.register_stays replayed.made;
      passed = subst (λ (n : ℕ). All (λ (receipt : SeatReceipt). length_in receipt ≤ n) earlier) same replayed.passed;
      bare = record {
        used = λ key held.
            subst (λ (register : Register). IsInUse register.stream key) (sym landed.stays.register_stays)
            (elim ((landed.held key).0 held) [
              | inl was ↦ replayed.bare.used key was
              | inr same ↦ subst (λ (k : Key). IsInUse old.session.register.stream k) (sym same) landed.used
            ]);
        cached_none = landed.cached_stays ∙ replayed.bare.cached_none;
        out_none = landed.out_none;
      };
      ready =
          subst (λ (n : ℕ). AreReady journal books seat earlier n new.session new.ready) same
          (AreReady-decoded journal books seat earlier (reach old) old.session new.session old.ready new.ready out.key forgot.0
          landed.stays.register_stays landed.stays.numbers_stay
          (same_number old.session mid taken.register_stays taken.numbers_stay out.key forgot.0 forgot.1) landed.awaited landed.held
          (same_numbers old.session mid taken.register_stays taken.numbers_stay forgot.2) forgot.3 replayed.ready);
      gone =
          subst (λ (n : ℕ). AreGone journal books seat n new.session new.gone) same
          (AreGone-same journal books seat (reach old) old.session new.session new.gone landed.stays.register_stays
          landed.stays.numbers_stay
          (subst (λ (set : NumberSet). AreGone journal books seat (reach old) old.session set) (sym gone_is) replayed.gone));
    }

-- the session after that
pub Stays-decoded : (before mid new : Machine) (id : ℕ) (job : JobValue) (landing : Landing)
    → AnswersTakeWithUnit before (Ok (Some (id, job))) mid → AnswersLand mid job landing new → Stays before new
Stays-decoded before mid new id job landing told answer =
    let store : (store_of new).numbers ≡ (store_of mid).numbers = numbers_land (store_of mid) job landing (store_of new) answer.0 in
    record {
      journal_stays = answer.1.0 ∙ told.0.1.0;
      register_stays = answer.1.1 ∙ told.0.1.1;
      numbers_stay = store ∙ ap (λ (store : StoreValue). store.numbers) told.0.0.gives.new_is;
    }
  where
    numbers_land : (old : StoreValue) (job : JobValue) (landing : Landing) (new : StoreValue) → pictures.AnswersResult IsMade old job landing new
        → new.numbers ≡ old.numbers
    numbers_land old job landings.Foreign new answer = ap (λ (store : StoreValue). store.numbers) answer.2.1
    numbers_land old job landings.Stale new answer = ap (λ (store : StoreValue). store.numbers) answer.2.3.1
    numbers_land old job landings.Taken new answer = ap (λ (store : StoreValue). store.numbers) answer.2.3.4

-- where no job is due, nothing changes
pub none_taken : (old new : Machine) → AnswersTakeWithUnit old (Ok None) new → new ≡ old
none_taken old new answer = same_machine old new answer.0.1 answer.1

pub Stays-same : (old new : Machine) → new ≡ old → Stays old new
Stays-same old new same = record {
  journal_stays = ap (λ (machine : Machine). machine.journal) same;
  register_stays = ap (λ (machine : Machine). machine.register) same;
  numbers_stay = ap (λ (machine : Machine). machine.numbers) same;
}

pub IsReplayed-same : (journal : List (List Edit)) (books : List SeatBook) (seat : ℕ) (earlier : List SeatReceipt) (old : Replay) (new : Machine) → new ≡ old.session
    → IsReplayed journal books seat earlier old → IsReplayed journal books seat earlier (record old { session = new })
IsReplayed-same journal books seat earlier old new same replayed =
    subst (λ (machine : Machine). IsReplayed journal books seat earlier (record old { session = machine })) (sym same) replayed

-- what stays so twice
pub Stays-both : (a b c : Machine) → Stays a b → Stays b c → Stays a c
Stays-both a b c first second = record {
  journal_stays = second.journal_stays ∙ first.journal_stays;
  register_stays = second.register_stays ∙ first.register_stays;
  numbers_stay = second.numbers_stay ∙ first.numbers_stay;
}
