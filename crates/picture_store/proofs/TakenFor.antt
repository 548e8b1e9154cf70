-- What is told of a job that is taken for a unit.
use Rattle.std.proofs.Common.{sym, subst, ◌∙◌, ℕ, ◌<◌, List, Option, arith}
use Rattle.std.specs.Prelude.{Ok, Err}
use Rattle.std.specs.List.{zip}
use Rattle.std.specs.declared.cmp.Reverse.{Reverse}
use Rattle.unit_outcomes.specs.declared.outcome.Outcome.{Outcome}
use Rattle.picture_store.specs.declared.answers.JobAt.{JobAt}
use Rattle.picture_store.specs.declared.job_out.JobOut.{JobOut}
use Rattle.picture_store.specs.declared.schedule.Dependent.{Dependent}
use Rattle.picture_store.specs.declared.answers.TakeRefused.{TakeRefused}
use Rattle.picture_store.specs.declared.answers.TakeRefused.TheVariants.{JobsSpent, Memory}
use Rattle.picture_store.specs.Due.{IsDueThere}
use Rattle.picture_store.specs.Jobs.{AnswersTake, Gives}
use Rattle.picture_store.specs.Stored.{Trees, IsSound}
use Rattle.picture_store.specs.Pending.{IsPending, IsNeededBy, IsDueAt, IsAnyOutBy}
use Rattle.picture_store.specs.KeySlots.{KeySlotsValue}
use Rattle.picture_store.specs.Schedules.{AreScheduled, IsEarliestDue, IsQueued}
use Rattle.picture_store.specs.Stores.{StoreValue}
use Rattle.picture_store.specs.TakingFor.{TakesFor, TellsGiven, AnswersTakeWithUnitFor}
use Rattle.picture_store.proofs.Pended.{needed_of, needed_from, due_of, due_there, one_out}
use Rattle.picture_store.proofs.Viewed.{Marked, viewed}
use Rattle.decode_jobs.specs.Inputs.{InputValue}
use Rattle.decode_jobs.specs.Keys.{Key}

-- why the job of a needed unit isn't given
pub refusal_told : {P : Type 0} (IsOf : Key → P → Type 0) (old : StoreValue P) (target place : ℕ) (refused : TakeRefused) (new : StoreValue P) → IsNeededBy old target place
    → IsDueAt old place → TellsGiven IsOf old place (Err refused) new → AnswersTakeWithUnitFor IsOf old target (Err refused) new
refusal_told IsOf old target place JobsSpent new needed due told = ((place, needed, due), told.0, told.1)
refusal_told IsOf old target place Memory new needed due told = told.1

module _ {P : Type 0} {IsDecoded : InputValue P → P → Type 0} {IsOf : Key → P → Type 0} (keys : Trees) (ids : List ℕ) (outcomes : List Outcome) (numbers : List (Option ℕ)) (key_slots : KeySlotsValue P)
    (cached : List (ℕ × P)) (capacity : ℕ) (out : List (JobOut P)) (given : ℕ) (released : List P) (marked : Marked)
    (kept : IsSound IsDecoded IsOf keys ids outcomes numbers key_slots cached out) (target : ℕ) (dependents : List Dependent) (queue : List (Reverse ℕ))
    (are : AreScheduled keys (zip ids outcomes) numbers key_slots out target dependents queue) where
  -- the store as contracts see it
  abbrev store : StoreValue P
  store = viewed keys ids outcomes numbers key_slots cached capacity out given released marked

  -- where none in the queue is due, no needed unit is
  pub none_needed_due : ((at : ℕ) → IsQueued queue at → IsDueThere keys key_slots out numbers at → ⊥) → (at : ℕ)
      → IsNeededBy store target at → IsDueAt store at → ⊥
  none_needed_due none at is due =
      let there = due_there keys ids outcomes numbers key_slots cached capacity out given released marked kept at due in
      none at (are.due at (needed_from keys ids outcomes numbers key_slots cached capacity out given released marked kept target at is) there) there

  -- and while the unit is pending, one is out
  pub one_needed_out : ((at : ℕ) → IsQueued queue at → IsDueThere keys key_slots out numbers at → ⊥) → IsPending store target
      → IsAnyOutBy store target
  one_needed_out none pending =
      one_out keys ids outcomes numbers key_slots cached capacity out given released marked kept target (none_needed_due none) pending

  module _ (place number : ℕ) (is : IsEarliestDue keys key_slots out numbers queue place number) where
    -- the unit at the place is needed, and due
    pub is_needed : IsNeededBy store target place
    is_needed =
        needed_of keys ids outcomes numbers key_slots cached capacity out given released marked kept target place
        (are.queued place is.queued (number, is.number_is, λ held. let both = sym held.1 ∙ is.due.awaited in cc))

    pub is_due : IsDueAt store place
    is_due = due_of keys ids outcomes numbers key_slots cached capacity out given released marked kept place (number, is.number_is, is.due)

    -- its job is taken
    pub job_told : (told : JobAt P) (new : StoreValue P) → TellsGiven IsOf store place (Ok told) new → TakesFor IsOf store target told new
    job_told told new gives = record {
      gives = subst (λ p. Gives IsOf store p told.job new) (sym gives.0) gives.1;
      needed = subst (IsNeededBy store target) (sym gives.0) is_needed;
      earliest = λ at below other due.
          let there = due_there keys ids outcomes numbers key_slots cached capacity out given released marked kept at due in
          let least = is.earliest at
          (are.due at (needed_from keys ids outcomes numbers key_slots cached capacity out given released marked kept target at other) there) there in
          omega (arith, least, subst (λ p. at < p) gives.0 below);
    }

-- why the job of a unit that is due isn't given
pub refusal_answered : {P : Type 0} (IsOf : Key → P → Type 0) (old : StoreValue P) (place : ℕ) (refused : TakeRefused) (new : StoreValue P) → IsDueAt old place
    → TellsGiven IsOf old place (Err refused) new → AnswersTake IsOf old (Err refused) new
refusal_answered IsOf old place JobsSpent new due told = ((due.0, due.2), told.0, told.1)
refusal_answered IsOf old place Memory new due told = ((due.0, due.2), told.0, told.1)
