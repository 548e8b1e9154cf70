-- What is lost where another seat drops a picture.
use Rattle.std.proofs.Common.{◌≡◌, ℕ, Bool, true, false, cond, Some, sym, ◌∙◌, subst, refl, arith, eqb, ◌+◌, List, take}
use Rattle.std.specs.Prelude.{◌&&◌, ◌||◌, not, slice_get}
use Rattle.std.proofs.lemmas.Bool.{eqb-true}
use Rattle.decode_jobs.specs.Keys.{Key}
use Rattle.picture_store.specs.Stores.{AreOneToOne, IsNumberOf}
use Rattle.stream_session.specs.Machines.{store_of}
use Rattle.stream_session.specs.Showing.{HasKey, HasNumber}
use Rattle.seat_books.specs.declared.drop_table.SeatDrop.{SeatDrop}
use Rattle.seat_books.specs.declared.replay.Replay.{Replay}
use Rattle.seat_books.specs.Drops.{AreLost, LosesOne}
use Rattle.seat_books.specs.Sets.{has}
use Rattle.seat_books.proofs.Gone.{AreLost-more, AreLost-own, ready_without}
use Rattle.seat_books.proofs.Numbers.{number_of_unit, one_key}

-- the key of the unit, by its number
pub LosesOne-key : (old new : Replay) (id number : ℕ) → HasNumber old.session id (Some number)
    → AreOneToOne (store_of old.session) (store_of old.session)
    → ((other : ℕ) → has new.gone other ≡ cond (eqb number other) true (has old.gone other))
    → ((other : ℕ) → has new.ready other ≡ cond (eqb number other) false (has old.ready other))
    → LosesOne old id new
LosesOne-key old new id number value one added taken = record {
  lost = λ other. eqb number other;
  is = λ key other is. (
    λ has_key.
        let same : value.0 ≡ key = one_key old.session.register.stream id value.0 key value.1 has_key in
        let numbers : number ≡ other = (one value.0 key number other its is).1 same in
        subst (λ (n : ℕ). eqb number n ≡ true) numbers (itself number),
    λ so.
        let keys : value.0 ≡ key = (one value.0 key number other its is).0 (eqb-true number other so) in
        subst (λ (k : Key). HasKey old.session.register.stream id k) keys value.1,
  );
  gone = λ other. added other ∙ either (eqb number other) (has old.gone other);
  ready = λ other. taken other ∙ without (eqb number other) (has old.ready other);
}
  where
    its : IsNumberOf (store_of old.session) value.0 number
    its = number_of_unit old.session id value.0 number value.1 value

    itself : (k : ℕ) → eqb k k ≡ true
    itself k = grind arith

    either : (a b : Bool) → cond a true b ≡ (b || a)
    either true true = refl
    either true false = refl
    either false true = refl
    either false false = refl

    without : (a b : Bool) → cond a false b ≡ (b && not a)
    without true true = refl
    without true false = refl
    without false true = refl
    without false false = refl

-- a unit that has none
pub LosesOne-nothing : (old : Replay) (id : ℕ) → ((key : Key) → HasKey old.session.register.stream id key → ⊥)
    → LosesOne old id old
LosesOne-nothing old id none = record {
  lost = λ other. false;
  is = λ key other is. (λ has_key. absurd (none key has_key), λ so. absurd (never so));
  gone = λ other. either (has old.gone other);
  ready = λ other. without (has old.ready other);
}
  where
    never : false ≡ true → ⊥
    never is = cc

    either : (b : Bool) → b ≡ (b || false)
    either true = refl
    either false = refl

    without : (b : Bool) → b ≡ (b && not false)
    without true = refl
    without false = refl

-- the first drops, so many, were passed
pub record IsPassed (start : Replay) (drops : List SeatDrop) (n : ℕ) (now : Replay) : Type 0 where
  pub own : now.seat ≡ start.seat
  pub session : now.session ≡ start.session
  pub gone : AreLost start.session start.seat (take n drops) now.gone
  pub ready : (number : ℕ) → has now.ready number ≡ (has start.ready number && not (has now.gone number))

-- the next one is the seat's own
pub IsPassed-own : (start : Replay) (drops : List SeatDrop) (i : ℕ) (drop : SeatDrop) (mid : Replay)
    → slice_get drops i ≡ Some drop → drop.seat ≡ mid.seat → IsPassed start drops i mid → IsPassed start drops (i + 1) mid
IsPassed-own start drops i drop mid stands own passed = record {
  own = passed.own;
  session = passed.session;
  gone = AreLost-own start.session start.seat drops i drop stands mid.gone (own ∙ passed.own) passed.gone;
  ready = passed.ready;
}

-- or another seat's
pub IsPassed-other : (start : Replay) (drops : List SeatDrop) (i : ℕ) (drop : SeatDrop) (mid new : Replay)
    → slice_get drops i ≡ Some drop → (drop.seat ≡ mid.seat → ⊥) → new.seat ≡ mid.seat → new.session ≡ mid.session
    → LosesOne mid drop.id new → IsPassed start drops i mid → IsPassed start drops (i + 1) new
IsPassed-other start drops i drop mid new stands apart own session loses passed = record {
  own = own ∙ passed.own;
  session = session ∙ passed.session;
  gone = AreLost-more start.session start.seat drops i drop stands mid new passed.session (λ same. apart (same ∙ sym passed.own))
      loses passed.gone;
  ready = ready_without start.ready mid.ready new.ready mid.gone new.gone loses.lost passed.ready loses.gone loses.ready;
}
