-- A job that is kept in hand as a session answered it.
use Rattle.std.proofs.Common.{ℕ, Bool, List, ◌∷◌, [], ◌++◌, Option, None, Some, sym, ◌∙◌, ap, subst, inl}
use Rattle.std.specs.Prelude.{Result, Ok, Err}
use Rattle.decode_jobs.specs.Jobs.{JobValue}
use Rattle.decode_jobs.specs.declared.decoded.Decoded.{Ghosts}
use Rattle.picture_store.specs.declared.answers.TakeRefused.{TakeRefused}
use Rattle.stream_session.specs.Jobs.{AnswersTake}
use Rattle.stream_session.specs.Machines.{Machine}
use Rattle.worker_jobs.specs.Taking.{AnswersTakeFirst}
use Rattle.worker_jobs.specs.declared.worker_queue.WorkerQueue.{WorkerQueue}
use Rattle.worker_jobs.specs.JobCounts.{HasMore, IsSame, Keeps, TakesFirstIn, TakesIn}

abbrev Answer : Type 0 → Type 0
Answer P = Result (Option (JobValue P)) TakeRefused

module _ {P : Type 0} {decoded : Ghosts P} where
  same_through : (old middle new : WorkerQueue P decoded) → IsSame old middle → IsSame middle new → IsSame old new
  same_through old middle new one other = record {
    jobs = other.jobs ∙ one.jobs;
    results = other.results ∙ one.results;
    late = other.late ∙ one.late;
    counts = other.counts ∙ one.counts;
  }

  more_through : (old middle : WorkerQueue P decoded) (job : JobValue P) (new : WorkerQueue P decoded) → IsSame old middle → HasMore middle job new → HasMore old job new
  more_through old middle job new one more = record {
    jobs = more.jobs ∙ ap (λ (jobs : List (JobValue P)). jobs ++ job ∷ []) one.jobs;
    results = more.results ∙ one.results;
    late = more.late ∙ one.late;
    counts = more.counts ∙ one.counts;
  }

  -- what any unit's job was asked for
  pub take_kept : (from to : Machine P) (old middle new : WorkerQueue P decoded) (answer : Answer P) (kept : Result Bool TakeRefused)
      → IsSame old middle → AnswersTake decoded.IsOf from answer to → Keeps middle answer kept new → TakesIn from old kept to new
  take_kept from to old middle new (Ok (Some job)) kept same answers keeps =
      subst (λ (it : Result Bool TakeRefused). TakesIn from old it to new) (sym keeps.0)
      (job, answers, more_through old middle job new same keeps.1)
  take_kept from to old middle new (Ok None) kept same answers keeps =
      subst (λ (it : Result Bool TakeRefused). TakesIn from old it to new) (sym keeps.0)
      (answers, same_through old middle new same keeps.1)
  take_kept from to old middle new (Err refused) kept same answers keeps =
      subst (λ (it : Result Bool TakeRefused). TakesIn from old it to new) (sym keeps.0)
      (inl answers, same_through old middle new same keeps.1)

  -- what a job for the first of several ids was asked for
  pub first_kept : (from to : Machine P) (ids : List ℕ) (old middle new : WorkerQueue P decoded) (answer : Answer P) (kept : Result Bool TakeRefused)
      → IsSame old middle → AnswersTakeFirst decoded.IsOf from ids answer to → Keeps middle answer kept new
      → TakesFirstIn from ids old kept to new
  first_kept from to ids old middle new (Ok (Some job)) kept same answers keeps =
      subst (λ (it : Result Bool TakeRefused). TakesFirstIn from ids old it to new) (sym keeps.0)
      (job, answers, more_through old middle job new same keeps.1)
  first_kept from to ids old middle new (Ok None) kept same answers keeps =
      subst (λ (it : Result Bool TakeRefused). TakesFirstIn from ids old it to new) (sym keeps.0)
      (answers, same_through old middle new same keeps.1)
  first_kept from to ids old middle new (Err refused) kept same answers keeps =
      subst (λ (it : Result Bool TakeRefused). TakesFirstIn from ids old it to new) (sym keeps.0)
      (inl answers, same_through old middle new same keeps.1)
