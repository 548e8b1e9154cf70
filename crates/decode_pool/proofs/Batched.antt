-- Several steps of a session, one after the other.
use Rattle.std.proofs.Common.{◌≡◌, ◌≢◌, ◌⊎◌, ◌+◌, Bool, true, false, List, [], ◌∷◌, ◌++◌, length, Some, refl, sym, ap, subst, inl, inr, arith}
use Rattle.std.specs.Prelude.{Ok, Err}
use Rattle.std.proofs.lemmas.List.{length-append}
use Rattle.decode_jobs.specs.Jobs.{JobValue}
use Rattle.decode_jobs.specs.Keys.{Key}
use Rattle.decode_jobs.specs.declared.decoded.Decoded.{Ghosts}
use Rattle.picture_store.specs.declared.answers.Landing.{Landing}
use Rattle.picture_store.specs.declared.answers.Returning.{Returning}
use Rattle.picture_store.specs.declared.answers.TakeRefused.{TakeRefused}
use Rattle.picture_store.specs.declared.answers.TakeRefused.TheVariants as refusals
use Rattle.stream_session.specs.Jobs.{AnswersTake}
use Rattle.stream_session.specs.Machines.{Machine}
use Rattle.worker_jobs.specs.declared.worker_queue.JobCounts.{JobCounts}
use Rattle.worker_jobs.specs.declared.worker_queue.WorkerQueue.{WorkerQueue}
use Rattle.decode_pool.specs.declared.state.bringing.Next.{Next}
use Rattle.decode_pool.specs.declared.state.bringing.Next.TheVariants as next
use Rattle.decode_pool.specs.Batches.{GivesBackAll, LandsAll, TakesAll, TakesSome, TakesNone}
use Rattle.worker_jobs.specs.JobCounts.{GivesBackIn, HasMore, LandsIn, TakesIn, with_landing}

-- a list with one element more in front is one longer
pub longer : {X : Type 0} (xs ys : List X) (x : X) → xs ≡ x ∷ ys → length xs ≡ length ys + 1
longer {X} xs ys x is = let same : length xs ≡ length (x ∷ ys) = ap (λ (it : List X). length it) is in omega (arith, same)

module _ {P : Type 0} {decoded : Ghosts P} where
  -- the results in hand land where the first does and then the others do
  pub land_first : (from : Machine P) (old : WorkerQueue P decoded) (landing : Landing) (then : Machine P) (new : WorkerQueue P decoded)
      → LandsIn from old landing then new → (to : Machine P) (final : JobCounts) (all : List P)
      → LandsAll decoded.IsDecoded then new.results.items new.counts new.late.items to final all
      → LandsAll decoded.IsDecoded from old.results.items old.counts old.late.items to final all
  land_first from old landing then new lands to final all others =
      subst (λ (jobs : List (JobValue P)). LandsAll decoded.IsDecoded from jobs old.counts old.late.items to final all)
      (sym lands.first) (
        landing,
        lands.picture,
        then,
        lands.lands,
        lands.made,
        subst (λ (late : List P). LandsAll decoded.IsDecoded then new.results.items (with_landing landing old.counts) late to final all)
            lands.late
            (subst (λ (counts : JobCounts). LandsAll decoded.IsDecoded then new.results.items counts new.late.items to final all)
            lands.counted others),
      )

  -- the jobs in hand are given back where the first is and then the others are
  pub give_first : (from : Machine P) (old : WorkerQueue P decoded) (returning : Returning) (then : Machine P) (new : WorkerQueue P decoded)
      → GivesBackIn from old returning then new → (to : Machine P) (final : JobCounts)
      → GivesBackAll then new.jobs.items new.counts to final → GivesBackAll from old.jobs.items old.counts to final
  give_first from old returning then new gives to final others =
      subst (λ (jobs : List (JobValue P)). GivesBackAll from jobs old.counts to final) (sym gives.first) (
        returning,
        then,
        gives.returns,
        subst (λ (counts : JobCounts). GivesBackAll then new.jobs.items counts to final) gives.counted others,
      )

module _ {P : Type 0} (IsOf : Key → P → Type 0) where
  take_last : (from : Machine P) (jobs : List (JobValue P)) (then : Machine P) (job : JobValue P) (to : Machine P)
      → TakesAll IsOf from jobs then → AnswersTake IsOf then (Ok (Some job)) to → TakesAll IsOf from (jobs ++ job ∷ []) to
  take_last from [] then job to taken takes =
      (to, subst (λ (machine : Machine P). AnswersTake IsOf machine (Ok (Some job)) to) taken takes, refl)
  take_last from (first ∷ jobs) then job to taken takes =
      (taken.0, taken.1, take_last taken.0 jobs then job to taken.2 takes)

  -- no job is taken where one can't be
  pub take_none : (from : Machine P) (refused : TakeRefused) (to : Machine P)
      → (AnswersTake IsOf from (Err refused) to) ⊎ ((refused ≡ refusals.Memory) × (to ≡ from)) → TakesNone IsOf from to
  take_none from refused to (inl answers) = inl (refused, answers)
  take_none from refused to (inr stays) = inr stays.1

  -- what a worker does next that is given no more jobs
  pub next_after : (from : Machine P) (jobs : List (JobValue P)) (then to : Machine P) (result : Next) → TakesAll IsOf from jobs then
      → TakesNone IsOf then to → (jobs ≡ [] → result ≡ next.Ends) → (jobs ≢ [] → result ≡ next.DecodesLast)
      → TakesSome IsOf from jobs result to
  next_after from [] then to result taken none ends decodes =
      subst (λ (it : Next). TakesSome IsOf from [] it to) (sym (ends refl))
      (refl, subst (λ (machine : Machine P). TakesNone IsOf machine to) taken none)
  next_after from (job ∷ jobs) then to result taken none ends decodes =
      subst (λ (it : Next). TakesSome IsOf from (job ∷ jobs) it to) (sym (decodes (λ same. cc)))
      ((λ same. cc), (then, taken, inr none))

module _ {P : Type 0} {decoded : Ghosts P} where
  -- a job that is taken
  took : (from : Machine P) (old : WorkerQueue P decoded) (b : Bool) (to : Machine P) (new : WorkerQueue P decoded) → TakesIn from old (Ok b) to new
      → b ≡ true → (job : JobValue P) × AnswersTake decoded.IsOf from (Ok (Some job)) to × HasMore old job new
  took from old true to new takes is = takes
  took from old false to new takes is = absurd cc

  -- where one job more is taken, all were taken one after the other
  pub take_more : (first from : Machine P) (old : WorkerQueue P decoded) (b : Bool) (to : Machine P) (new : WorkerQueue P decoded)
      → TakesIn from old (Ok b) to new → b ≡ true → TakesAll decoded.IsOf first old.jobs.items from
      → TakesAll decoded.IsOf first new.jobs.items to × (length new.jobs.items ≡ length old.jobs.items + 1)
      × (new.results.items ≡ old.results.items) × (new.late.items ≡ old.late.items) × (new.counts ≡ old.counts)
  take_more first from old b to new takes is taken =
      let one = took from old b to new takes is in
      let more : new.jobs.items ≡ old.jobs.items ++ one.0 ∷ [] = one.2.jobs in (
        subst (λ (jobs : List (JobValue P)). TakesAll decoded.IsOf first jobs to) (sym more)
            (take_last decoded.IsOf first old.jobs.items from one.0 to taken one.1),
        subst (λ (jobs : List (JobValue P)). length jobs ≡ length old.jobs.items + 1) (sym more)
            (length-append old.jobs.items (one.0 ∷ [])),
        one.2.results,
        one.2.late,
        one.2.counts,
      )
