-- The first of two lists of ids, one behind the other.
use Rattle.std.proofs.Common.{◌≡◌, ℕ, ◌+◌, ◌<◌, ◌≤◌, Bool, true, false, List, [], ◌∷◌, ◌++◌, length, get_or, Option, None, Some, MatchBool, refl, sym, ◌∙◌, ap, subst, inl, inr, arith}
use Rattle.std.specs.Prelude.{Result, Ok, Err, slice_get}
use Rattle.std.proofs.Math.Nat.{eq-or-lt_of_le}
use Rattle.std.proofs.lemmas.Option.{slice_get_within, get_or_from_slice_get}
use Rattle.decode_jobs.specs.Jobs.{JobValue}
use Rattle.decode_jobs.specs.Keys.{Key}
use Rattle.picture_store.specs.declared.answers.TakeRefused.{TakeRefused}
use Rattle.stream_session.specs.Machines.{Machine}
use Rattle.stream_session.specs.Needing.{AnswersTakeFor, IsAnyDueFor}
use Rattle.stream_session.specs.Showing.{Shows}
use Rattle.stream_session.specs.declared.showing.Shown.{Shown}
use Rattle.stream_session.specs.declared.showing.Shown.TheVariants as shown
use Rattle.worker_jobs.specs.Taking.{AnswersForFirst, AnswersTakeFirst, NoneDue, NoneDueBefore}
use Rattle.worker_jobs.specs.Rests.{AreSettled, IsAnyPending, IsAtRest, IsSettled, MayNotRest}
use Rattle.worker_jobs.specs.Wanted.{Wants}
use Rattle.worker_jobs.proofs.Joined.{get_joined, stands_left, stands_right}

abbrev Answer : Type 0 → Type 0
Answer P = Result (Option (JobValue P)) TakeRefused

none_left : {X : Type 0} (xs : List X) → length xs ≡ 0 → xs ≡ []
none_left [] is = refl
none_left (x ∷ xs) is = absurd (omega arith)

module _ {P : Type 0} (IsOf : Key → P → Type 0) where
  -- none is due for an id
  pub none_for : (old new : Machine P) (id : ℕ) (answer : Option (JobValue P)) → AnswersTakeFor IsOf old id (Ok answer) new → answer ≡ None
      → (IsAnyDueFor old id → ⊥) × (new ≡ old)
  none_for old new id None answers is = answers
  none_for old new id (Some job) answers is = absurd cc

  -- none is due for one id more
  pub none_more : (old : Machine P) (ids : List ℕ) (n id : ℕ) → id ≡ get_or ids n 0 → NoneDueBefore old ids n
      → (IsAnyDueFor old id → ⊥) → NoneDueBefore old ids (n + 1)
  none_more old ids n id is before none = λ at other low there due.
      let within : at ≤ n = omega arith in
      let read : get_or ids at 0 ≡ other = get_or_from_slice_get ids at other 0 there in
      elim (eq-or-lt_of_le within) as (λ _. ⊥) [
        | inl last ↦
            let same : other ≡ id = sym read ∙ (ap (λ (k : ℕ). get_or ids k 0) last ∙ sym is) in
            none (subst (λ (k : ℕ). IsAnyDueFor old k) same due)
        | inr less ↦ before at other less there due
      ]

  left_first : (old new : Machine P) (xs ys : List ℕ) (answer : Answer P) → AnswersForFirst IsOf old xs answer new
      → AnswersForFirst IsOf old (xs ++ ys) answer new
  left_first old new xs ys answer first = record {
    at = first.at;
    id = first.id;
    stands = stands_left xs ys first.at first.id first.stands;
    before = λ at id low is.
        let within : first.at < length xs = slice_get_within xs first.at first.id first.stands in
        elim (get_joined xs ys at id is) [
          | inl there ↦ first.before at id low there
          | inr behind ↦ absurd (let past : at ≡ length xs + behind.0 = behind.1 in omega arith)
        ];
    answers = first.answers;
  }

  right_first : (old new : Machine P) (xs ys : List ℕ) (answer : Answer P) → NoneDue old xs → AnswersForFirst IsOf old ys answer new
      → AnswersForFirst IsOf old (xs ++ ys) answer new
  right_first old new xs ys answer none first = record {
    at = length xs + first.at;
    id = first.id;
    stands = stands_right xs ys (length xs + first.at) first.at first.id refl first.stands;
    before = λ at id low is.
        elim (get_joined xs ys at id is) [
          | inl there ↦ none at id there
          | inr behind ↦ let past : at ≡ length xs + behind.0 = behind.1 in first.before behind.0 id (omega arith) behind.2
        ];
    answers = first.answers;
  }

  none_joined : (old : Machine P) (xs ys : List ℕ) → NoneDue old xs → NoneDue old ys → NoneDue old (xs ++ ys)
  none_joined old xs ys one other = λ at id is.
      elim (get_joined xs ys at id is) [ inl there ↦ one at id there | inr behind ↦ other behind.0 id behind.2 ]

  right : (old new : Machine P) (xs ys : List ℕ) (answer : Answer P) → NoneDue old xs → AnswersTakeFirst IsOf old ys answer new
      → AnswersTakeFirst IsOf old (xs ++ ys) answer new
  right old new xs ys (Ok None) none answers = (none_joined old xs ys none answers.0, answers.1)
  right old new xs ys (Ok (Some job)) none answers = right_first old new xs ys (Ok (Some job)) none answers
  right old new xs ys (Err refused) none answers = right_first old new xs ys (Err refused) none answers

  -- what is answered for an id of the first list
  pub left_some : (old new : Machine P) (numbers xs ys : List ℕ) (answer : Option (JobValue P)) (job : JobValue P) → numbers ≡ xs
      → answer ≡ Some job → AnswersTakeFirst IsOf old numbers (Ok answer) new → AnswersTakeFirst IsOf old (xs ++ ys) (Ok (Some job)) new
  left_some old new numbers xs ys answer job same is answers =
      left_first old new xs ys (Ok (Some job))
      (subst (λ (ids : List ℕ). AnswersTakeFirst IsOf old ids (Ok (Some job)) new) same
      (subst (λ (it : Option (JobValue P)). AnswersTakeFirst IsOf old numbers (Ok it) new) is answers))

  pub left_err : (old new : Machine P) (numbers xs ys : List ℕ) (refused : TakeRefused) → numbers ≡ xs
      → AnswersTakeFirst IsOf old numbers (Err refused) new → AnswersTakeFirst IsOf old (xs ++ ys) (Err refused) new
  left_err old new numbers xs ys refused same answers =
      left_first old new xs ys (Err refused)
      (subst (λ (ids : List ℕ). AnswersTakeFirst IsOf old ids (Err refused) new) same answers)

  -- the answer for the second list, where none of the first is due
  pub right_after : (old then new : Machine P) (numbers others xs ys : List ℕ) (found : Option (JobValue P)) (answer : Answer P)
      → numbers ≡ xs → others ≡ ys → found ≡ None → AnswersTakeFirst IsOf old numbers (Ok found) then
      → AnswersTakeFirst IsOf then others answer new → AnswersTakeFirst IsOf old (xs ++ ys) answer new
  right_after old then new numbers others xs ys found answer same alike is first second =
      let none_due : NoneDue old numbers × (then ≡ old) =
      subst (λ (it : Option (JobValue P)). AnswersTakeFirst IsOf old numbers (Ok it) then) is first in
      right old new xs ys answer (subst (λ (ids : List ℕ). NoneDue old ids) same none_due.0)
      (subst (λ (ids : List ℕ). AnswersTakeFirst IsOf old ids answer new) alike
      (subst (λ (machine : Machine P). AnswersTakeFirst IsOf machine others answer new) none_due.1 second))

  -- one unit more is settled
  pub settled_more : (machine : Machine P) (ids : List ℕ) (n id : ℕ) (answer : Shown P) → id ≡ get_or ids n 0
      → Shows IsOf machine id answer → (answer ≡ shown.Pending → ⊥)
      → ((at other : ℕ) → at < n → slice_get ids at ≡ Some other → IsSettled IsOf machine other)
      → (at other : ℕ) → at < n + 1 → slice_get ids at ≡ Some other → IsSettled IsOf machine other
  settled_more machine ids n id answer is shows settled before at other low there =
      let within : at ≤ n = omega arith in
      let read : get_or ids at 0 ≡ other = get_or_from_slice_get ids at other 0 there in
      elim (eq-or-lt_of_le within) as (λ _. IsSettled IsOf machine other) [
        | inl last ↦
            let same : id ≡ other = is ∙ (sym (ap (λ (k : ℕ). get_or ids k 0) last) ∙ read) in
            (answer, subst (λ (k : ℕ). Shows IsOf machine k answer) same shows, settled)
        | inr less ↦ before at other less there
      ]

  settled_joined : (machine : Machine P) (xs ys : List ℕ) → AreSettled IsOf machine xs → AreSettled IsOf machine ys
      → AreSettled IsOf machine (xs ++ ys)
  settled_joined machine xs ys one other = λ at id is.
      elim (get_joined xs ys at id is) [ inl there ↦ one at id there | inr behind ↦ other behind.0 id behind.2 ]

  pending_left : (machine : Machine P) (xs ys : List ℕ) → IsAnyPending IsOf machine xs → IsAnyPending IsOf machine (xs ++ ys)
  pending_left machine xs ys pending = (pending.0, pending.1, stands_left xs ys pending.0 pending.1 pending.2, pending.3)

  pending_right : (machine : Machine P) (xs ys : List ℕ) → IsAnyPending IsOf machine ys → IsAnyPending IsOf machine (xs ++ ys)
  pending_right machine xs ys pending =
      (length xs + pending.0, pending.1, stands_right xs ys (length xs + pending.0) pending.0 pending.1 refl pending.2, pending.3)

  -- the end of a wait for all that is wanted, by what becomes of the second list where the first is
  -- settled
  pub rests : (machine : Machine P) (wants : Wants) (numbers others : List ℕ) (b : Bool) → numbers ≡ wants.waited
      → others ≡ wants.listed → wants.rest ≡ false → length machine.jobs_out ≡ 0 → AreSettled IsOf machine numbers
      → MatchBool b (AreSettled IsOf machine others) (IsAnyPending IsOf machine others)
      → MatchBool b (IsAtRest IsOf machine wants) (MayNotRest IsOf machine wants)
  rests machine wants numbers others true same alike off out one other = record {
    off = off;
    settled = settled_joined machine wants.waited wants.listed
        (subst (λ (ids : List ℕ). AreSettled IsOf machine ids) same one)
        (subst (λ (ids : List ℕ). AreSettled IsOf machine ids) alike other);
    none_out = none_left machine.jobs_out out;
  }
  rests machine wants numbers others false same alike off out one other =
      inr (inl (pending_right machine wants.waited wants.listed (subst (λ (ids : List ℕ). IsAnyPending IsOf machine ids) alike other)))

  -- it goes on where one of the first list is pending
  pub goes_on : (machine : Machine P) (wants : Wants) (numbers : List ℕ) (b : Bool) → numbers ≡ wants.waited → b ≡ false
      → IsAnyPending IsOf machine numbers → MatchBool b (IsAtRest IsOf machine wants) (MayNotRest IsOf machine wants)
  goes_on machine wants numbers true same is pending = absurd cc
  goes_on machine wants numbers false same is pending =
      inr (inl (pending_left machine wants.waited wants.listed (subst (λ (ids : List ℕ). IsAnyPending IsOf machine ids) same pending)))
