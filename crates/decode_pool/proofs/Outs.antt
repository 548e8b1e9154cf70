-- Jobs that are out stay different, whatever a session does.
use Rattle.std.proofs.Common.{Bool, true, false, ◌≡◌, ◌⊎◌, ℕ, ◌+◌, ◌<◌, ◌≤◌, List, [], ◌∷◌, ◌++◌, length, map, Option, None, Some, ◌∙◌, ap, subst, inl, inr, arith}
use Rattle.std.specs.Prelude.{slice_get, option_map, remove, Contains, Result, Ok, Err}
use Rattle.std.proofs.lemmas.Bool.{cases_lt}
use Rattle.std.proofs.lemmas.Option.{slice_get_within, slice_get-map}
use Rattle.std.specs.declared.alloc.AllocError.{AllocError}
use Rattle.decode_jobs.specs.Inputs.{InputValue}
use Rattle.decode_jobs.specs.Jobs.{JobValue}
use Rattle.decode_jobs.specs.Keys.{Key}
use Rattle.decode_jobs.specs.declared.decoded.Decoded.{Ghosts}
use Rattle.stand_in_device.specs.declared.picture.Picture.{Picture}
use Rattle.picture_keys.specs.Known.{key_of, known_after}
use Rattle.picture_store.specs.declared.answers.TakeRefused.{TakeRefused}
use Rattle.picture_store.specs.declared.answers.TakeRefused.TheVariants as take
use Rattle.picture_store.specs.declared.answers.Landing.{Landing}
use Rattle.picture_store.specs.declared.answers.Landing.TheVariants as landings
use Rattle.picture_store.specs.declared.answers.Returning.{Returning}
use Rattle.picture_store.specs.declared.answers.Returning.TheVariants as returnings
use Rattle.picture_store.specs.Jobs as pictures
use Rattle.picture_store.specs.Stores.{OutValue, StoreValue}
use Rattle.stream_edits.specs.declared.edits.Edit.{Edit}
use Rattle.stream_edits.specs.declared.group_refused.GroupRefused.{GroupRefused}
use Rattle.stream_edits.specs.declared.receipts.GroupReceipt.{GroupReceipt}
use Rattle.stream_edits.specs.declared.receipts.Receipt.{Receipt}
use Rattle.stream_edits.specs.declared.refusals.EditRefused.{EditRefused}
use Rattle.stream_session.specs.declared.showing.Dropped.{Dropped}
use Rattle.stream_session.specs.declared.showing.Dropped.TheVariants as went
use Rattle.stream_session.specs.Grouping.{AnswersGroup}
use Rattle.stream_session.specs.Machines.{Machine, AnswersEdit, empty, store_of, uncached}
use Rattle.stream_session.specs.Jobs.{AnswersGiveBack, AnswersLand, AnswersTake}
use Rattle.stream_session.specs.Needing.{AnswersDrop, AnswersReleased, AnswersTakeFor, AnswersUncache}
use Rattle.stand_in_session.specs.declared.jobs.Dropping.{Dropping}
use Rattle.stand_in_session.specs.declared.jobs.Dropping.TheVariants as dropping
use Rattle.worker_jobs.specs.Taking.{AnswersTakeFirst}
use Rattle.worker_jobs.specs.JobCounts.{TakesFirstIn, TakesIn}
use Rattle.worker_jobs.specs.declared.worker_queue.WorkerQueue.{WorkerQueue}
use Rattle.decode_pool.specs.Jobs.{JobsDiffer}
use Rattle.decode_pool.specs.Seats.{AnswersDropIn, AnswersEditIn}
use Rattle.decode_pool.proofs.Lists.{StoodAt, among, get_push, get_remove_above, get_remove_below}

side : (at gone : ℕ) → (at < gone) ⊎ (gone ≤ at)
side at gone = cases_lt at gone

module _ {P : Type 0} where
  -- before the first edit none is out
  pub none_differ : (cache : ℕ) → JobsDiffer (empty {P = P} cache)
  none_differ cache = record {
    given = λ at job is. absurd (cc);
    differ = λ at later job other low is so. absurd (cc);
  }

  -- the same jobs
  same_differ : (old new : Machine P) → new.jobs_out ≡ old.jobs_out → new.jobs ≡ old.jobs → JobsDiffer old → JobsDiffer new
  same_differ old new outs jobs apart = record {
    given = λ at job is.
        let was = apart.given at job (subst (λ (out : List (OutValue P)). slice_get out at ≡ Some job) outs is) in
        (was.0, omega (arith, was.1, jobs));
    differ = λ at later job other low is so.
        apart.differ at later job other low
        (subst (λ (out : List (OutValue P)). slice_get out at ≡ Some job) outs is)
        (subst (λ (out : List (OutValue P)). slice_get out later ≡ Some other) outs so);
  }

  -- one more, under the next number and with a key that no other has
  record IsNext (old : Machine P) (more : OutValue P) : Type 0 where
    number : more.number ≡ old.jobs + 1
    free : Contains (map (λ (job : OutValue P). job.key) old.jobs_out) more.key → ⊥

  given_more : (old : Machine P) (more : OutValue P) → IsNext old more → JobsDiffer old → (at : ℕ) (job : OutValue P)
      → (slice_get old.jobs_out at ≡ Some job) ⊎ ((at ≡ length old.jobs_out) × (job ≡ more))
      → (0 < job.number) × (job.number ≤ old.jobs + 1)
  given_more old more next apart at job (inl there) =
      let was = apart.given at job there in (was.0, omega (arith, was.1))
  given_more old more next apart at job (inr last) =
      let same : job.number ≡ more.number = ap (λ (j : OutValue P). j.number) last.1 in
      let number : more.number ≡ old.jobs + 1 = next.number in
      (omega arith, omega arith)

  differ_more : (old : Machine P) (more : OutValue P) → IsNext old more → JobsDiffer old
      → (at later : ℕ) (job other : OutValue P) → at < later
      → (slice_get old.jobs_out at ≡ Some job) ⊎ ((at ≡ length old.jobs_out) × (job ≡ more))
      → (slice_get old.jobs_out later ≡ Some other) ⊎ ((later ≡ length old.jobs_out) × (other ≡ more))
      → (job.number < other.number) × (job.key ≡ other.key → ⊥)
  differ_more old more next apart at later job other low (inl is) (inl so) = apart.differ at later job other low is so
  differ_more old more next apart at later job other low (inl is) (inr so) =
      let was = apart.given at job is in
      let number : more.number ≡ old.jobs + 1 = next.number in
      let last : other.number ≡ more.number = ap (λ (j : OutValue P). j.number) so.1 in
      let keyed : slice_get (map (λ (j : OutValue P). j.key) old.jobs_out) at ≡ Some job.key =
      slice_get-map (λ (j : OutValue P). j.key) old.jobs_out at ∙ ap (option_map (λ (j : OutValue P). j.key)) is in (
        omega (arith, was.1),
        λ same.
            next.free
            (subst (λ (key : Key). Contains (map (λ (j : OutValue P). j.key) old.jobs_out) key)
            (same ∙ ap (λ (j : OutValue P). j.key) so.1)
            (among (map (λ (j : OutValue P). j.key) old.jobs_out) at job.key keyed)),
      )
  differ_more old more next apart at later job other low (inr is) (inl so) =
      let within : later < length old.jobs_out = slice_get_within old.jobs_out later other so in
      let past : at ≡ length old.jobs_out = is.0 in absurd (omega arith)
  differ_more old more next apart at later job other low (inr is) (inr so) =
      let here : at ≡ length old.jobs_out = is.0 in
      let there : later ≡ length old.jobs_out = so.0 in absurd (omega arith)

  more_differ : (old new : Machine P) (more : OutValue P) → IsNext old more → new.jobs_out ≡ old.jobs_out ++ more ∷ []
      → new.jobs ≡ more.number → JobsDiffer old → JobsDiffer new
  more_differ old new more next outs jobs apart = record {
    given = λ at job is.
        let place = get_push old.jobs_out more job at (subst (λ (out : List (OutValue P)). slice_get out at ≡ Some job) outs is) in
        let was = given_more old more next apart at job place in
        (was.0, omega (arith, was.1, jobs, next.number));
    differ = λ at later job other low is so.
        differ_more old more next apart at later job other low
        (get_push old.jobs_out more job at (subst (λ (out : List (OutValue P)). slice_get out at ≡ Some job) outs is))
        (get_push old.jobs_out more other later (subst (λ (out : List (OutValue P)). slice_get out later ≡ Some other) outs so));
  }

  -- one less
  stood : (old : Machine P) (gone at : ℕ) (job : OutValue P) → gone < length old.jobs_out → (at < gone) ⊎ (gone ≤ at)
      → slice_get (remove old.jobs_out gone) at ≡ Some job → StoodAt old.jobs_out gone at job
  stood old gone at job within (inl low) is = get_remove_below old.jobs_out gone at job within low is
  stood old gone at job within (inr high) is = get_remove_above old.jobs_out gone at job within high is

  moved : (old : Machine P) (gone at later : ℕ) (job other : OutValue P) → at < later
      → (a : StoodAt old.jobs_out gone at job) (b : StoodAt old.jobs_out gone later other)
      → (at < gone) ⊎ (gone ≤ at) → (later < gone) ⊎ (gone ≤ later) → a.from < b.from
  moved old gone at later job other low a b (inl left) (inl right) = omega (arith, a.below left, b.below right)
  moved old gone at later job other low a b (inl left) (inr right) = omega (arith, a.below left, b.above right)
  moved old gone at later job other low a b (inr left) (inl right) = absurd (omega arith)
  moved old gone at later job other low a b (inr left) (inr right) = omega (arith, a.above left, b.above right)

  less_differ : (old new : Machine P) (gone : ℕ) → gone < length old.jobs_out → new.jobs_out ≡ remove old.jobs_out gone
      → new.jobs ≡ old.jobs → JobsDiffer old → JobsDiffer new
  less_differ old new gone within outs jobs apart = record {
    given = λ at job is.
        let left = subst (λ (out : List (OutValue P)). slice_get out at ≡ Some job) outs is in
        let from = stood old gone at job within (side at gone) left in
        let was = apart.given from.from job from.stood in (was.0, omega (arith, was.1, jobs));
    differ = λ at later job other low is so.
        let left = subst (λ (out : List (OutValue P)). slice_get out at ≡ Some job) outs is in
        let right = subst (λ (out : List (OutValue P)). slice_get out later ≡ Some other) outs so in
        let from = stood old gone at job within (side at gone) left in
        let behind = stood old gone later other within (side later gone) right in
        apart.differ from.from behind.from job other
        (moved old gone at later job other low from behind (side at gone) (side later gone)) from.stood behind.stood;
  }

  -- after a worker gives a job back
  pub given_back_differ : (old new : Machine P) (job : JobValue P) (returning : Returning)
      → AnswersGiveBack old job returning new → JobsDiffer old → JobsDiffer new
  given_back_differ old new job returnings.Foreign answers apart =
      same_differ old new (ap (λ (store : StoreValue P). store.jobs_out) answers.0.1)
      (ap (λ (store : StoreValue P). store.jobs_given) answers.0.1) apart
  given_back_differ old new job returnings.Returned answers apart =
      let gone = answers.0 in
      less_differ old new gone.0 (slice_get_within old.jobs_out gone.0 gone.1 gone.2.stands)
      (ap (λ (store : StoreValue P). store.jobs_out) gone.3) (ap (λ (store : StoreValue P). store.jobs_given) gone.3) apart

  -- after a session edits
  pub edited_differ : (old new : Machine P) (edit : Edit) (answer : Result Receipt EditRefused) → AnswersEdit old edit answer new
      → JobsDiffer old → JobsDiffer new
  edited_differ old new edit (Ok receipt) edits apart =
      same_differ old new edits.refits.out_stays edits.refits.given_stays apart
  edited_differ old new edit (Err refused) edits apart =
      same_differ old new (ap (λ (machine : Machine P). machine.jobs_out) edits.1)
      (ap (λ (machine : Machine P). machine.jobs) edits.1) apart

  -- after a session makes a group
  pub group_differ : (old new : Machine P) (edits : List Edit) (answer : Result GroupReceipt GroupRefused)
      → AnswersGroup old edits answer new → JobsDiffer old → JobsDiffer new
  group_differ old new edits (Ok receipt) made apart =
      same_differ old new made.refits.out_stays made.refits.given_stays apart
  group_differ old new edits (Err refused) made apart =
      same_differ old new (ap (λ (machine : Machine P). machine.jobs_out) made.1)
      (ap (λ (machine : Machine P). machine.jobs) made.1) apart

  -- after the cache is cleared
  pub cleared_differ : (old new : Machine P) → new ≡ uncached old → JobsDiffer old → JobsDiffer new
  cleared_differ old new same apart =
      same_differ old new (ap (λ (machine : Machine P). machine.jobs_out) same) (ap (λ (machine : Machine P). machine.jobs) same) apart

  -- after a released picture goes back
  pub released_differ : (old : Machine P) (answer : Option P) (new : Machine P) → AnswersReleased old answer new
      → JobsDiffer old → JobsDiffer new
  released_differ old (Some picture) new answers apart =
      same_differ old new (ap (λ (store : StoreValue P). store.jobs_out) answers.0.2)
      (ap (λ (store : StoreValue P). store.jobs_given) answers.0.2) apart
  released_differ old None new answers apart =
      same_differ old new (ap (λ (store : StoreValue P). store.jobs_out) answers.0.1)
      (ap (λ (store : StoreValue P). store.jobs_given) answers.0.1) apart

module _ {P : Type 0} (IsOf : Key → P → Type 0) where
  -- after a worker asks for a job
  pub taken_differ : (old new : Machine P) (answer : Result (Option (JobValue P)) TakeRefused) → AnswersTake IsOf old answer new
      → JobsDiffer old → JobsDiffer new
  taken_differ old new (Ok (Some job)) answers apart =
      let takes : pictures.Takes IsOf (store_of old) job (store_of new) = answers.0 in
      let more : OutValue P = record {
        number = job.number;
        key = key_of (known_after [] takes.gives.before) takes.gives.plan.requests;
        input = job.input;
      } in
      more_differ old new more (record { number = takes.gives.number_is; free = takes.gives.due.free })
      (ap (λ (store : StoreValue P). store.jobs_out) takes.gives.new_is) (ap (λ (store : StoreValue P). store.jobs_given) takes.gives.new_is) apart
  taken_differ old new (Ok None) answers apart =
      same_differ old new (ap (λ (store : StoreValue P). store.jobs_out) answers.0.1)
      (ap (λ (store : StoreValue P). store.jobs_given) answers.0.1) apart
  taken_differ old new (Err take.JobsSpent) answers apart =
      same_differ old new (ap (λ (store : StoreValue P). store.jobs_out) answers.0.2)
      (ap (λ (store : StoreValue P). store.jobs_given) answers.0.2) apart
  taken_differ old new (Err take.Memory) answers apart =
      same_differ old new (ap (λ (store : StoreValue P). store.jobs_out) answers.0.2)
      (ap (λ (store : StoreValue P). store.jobs_given) answers.0.2) apart

  -- after a worker asks for a job for a unit
  taken_for_differ : (old new : Machine P) (id : ℕ) (answer : Result (Option (JobValue P)) TakeRefused)
      → AnswersTakeFor IsOf old id answer new → JobsDiffer old → JobsDiffer new
  taken_for_differ old new id (Ok (Some job)) answers apart =
      let gives : pictures.Gives IsOf (store_of old) answers.1.at job (store_of new) = answers.1.takes.gives in
      let more : OutValue P = record {
        number = job.number;
        key = key_of (known_after [] gives.before) gives.plan.requests;
        input = job.input;
      } in
      more_differ old new more (record { number = gives.number_is; free = gives.due.free })
      (ap (λ (store : StoreValue P). store.jobs_out) gives.new_is) (ap (λ (store : StoreValue P). store.jobs_given) gives.new_is) apart
  taken_for_differ old new id (Ok None) answers apart =
      same_differ old new (ap (λ (machine : Machine P). machine.jobs_out) answers.1)
      (ap (λ (machine : Machine P). machine.jobs) answers.1) apart
  taken_for_differ old new id (Err take.JobsSpent) answers apart =
      same_differ old new (ap (λ (machine : Machine P). machine.jobs_out) answers.2)
      (ap (λ (machine : Machine P). machine.jobs) answers.2) apart
  taken_for_differ old new id (Err take.Memory) answers apart =
      same_differ old new (ap (λ (machine : Machine P). machine.jobs_out) answers)
      (ap (λ (machine : Machine P). machine.jobs) answers) apart

  -- after a worker asks for a job for the first of several ids
  first_differ : (old new : Machine P) (ids : List ℕ) (answer : Result (Option (JobValue P)) TakeRefused)
      → AnswersTakeFirst IsOf old ids answer new → JobsDiffer old → JobsDiffer new
  first_differ old new ids (Ok None) answers apart =
      same_differ old new (ap (λ (machine : Machine P). machine.jobs_out) answers.1)
      (ap (λ (machine : Machine P). machine.jobs) answers.1) apart
  first_differ old new ids (Ok (Some job)) answers apart =
      taken_for_differ old new answers.id (Ok (Some job)) answers.answers apart
  first_differ old new ids (Err refused) answers apart =
      taken_for_differ old new answers.id (Err refused) answers.answers apart

  -- after the picture of a unit goes back
  pub gone_differ : (old : Machine P) (id : ℕ) (answer : Dropped P) (new : Machine P) → AnswersDrop IsOf old id answer new
      → JobsDiffer old → JobsDiffer new
  gone_differ old id (went.Picture picture) new answers apart =
      same_differ old new (ap (λ (store : StoreValue P). store.jobs_out) answers.2.6)
      (ap (λ (store : StoreValue P). store.jobs_given) answers.2.6) apart
  gone_differ old id went.NotHeld new answers apart =
      same_differ old new (ap (λ (store : StoreValue P). store.jobs_out) answers.2.1)
      (ap (λ (store : StoreValue P). store.jobs_given) answers.2.1) apart
  gone_differ old id went.NoSuchUnit new answers apart =
      same_differ old new (ap (λ (machine : Machine P). machine.jobs_out) answers.1)
      (ap (λ (machine : Machine P). machine.jobs) answers.1) apart

  -- after the picture that was cached first goes back
  pub uncached_differ : (old : Machine P) (answer : Option P) (new : Machine P) → AnswersUncache IsOf old answer new
      → JobsDiffer old → JobsDiffer new
  uncached_differ old (Some picture) new answers apart =
      same_differ old new (ap (λ (store : StoreValue P). store.jobs_out) answers.0.4)
      (ap (λ (store : StoreValue P). store.jobs_given) answers.0.4) apart
  uncached_differ old None new answers apart =
      same_differ old new (ap (λ (store : StoreValue P). store.jobs_out) answers.0.1)
      (ap (λ (store : StoreValue P). store.jobs_given) answers.0.1) apart

module _ {P : Type 0} {decoded : Ghosts P} where
  -- after a worker asks for one more in hand for the first of several ids
  pub took_first_differ : (old new : Machine P) (ids : List ℕ) (before : WorkerQueue P decoded) (answer : Result Bool TakeRefused) (after : WorkerQueue P decoded)
      → TakesFirstIn old ids before answer new after → JobsDiffer old → JobsDiffer new
  took_first_differ old new ids before (Ok true) after takes apart =
      first_differ decoded.IsOf old new ids (Ok (Some takes.0)) takes.1 apart
  took_first_differ old new ids before (Ok false) after takes apart = first_differ decoded.IsOf old new ids (Ok None) takes.0 apart
  took_first_differ old new ids before (Err refused) after takes apart =
      elim takes.0 [
        | inl answers ↦ first_differ decoded.IsOf old new ids (Err refused) answers apart
        | inr stays ↦ same_differ old new (ap (λ (machine : Machine P). machine.jobs_out) stays.1)
            (ap (λ (machine : Machine P). machine.jobs) stays.1) apart
      ]

  -- after a worker asks for one more in hand
  pub took_differ : (old new : Machine P) (before : WorkerQueue P decoded) (answer : Result Bool TakeRefused) (after : WorkerQueue P decoded)
      → TakesIn old before answer new after → JobsDiffer old → JobsDiffer new
  took_differ old new before (Ok true) after takes apart = taken_differ decoded.IsOf old new (Ok (Some takes.0)) takes.1 apart
  took_differ old new before (Ok false) after takes apart = taken_differ decoded.IsOf old new (Ok None) takes.0 apart
  took_differ old new before (Err refused) after takes apart =
      elim takes.0 [
        | inl answers ↦ taken_differ decoded.IsOf old new (Err refused) answers apart
        | inr stays ↦ same_differ old new (ap (λ (machine : Machine P). machine.jobs_out) stays.1)
            (ap (λ (machine : Machine P). machine.jobs) stays.1) apart
      ]

module _ {P : Type 0} (IsDecoded : InputValue P → P → Type 0) where
  -- after a worker brings a result
  pub landed_differ : (old new : Machine P) (job : JobValue P) (landing : Landing) → AnswersLand IsDecoded old job landing new
      → JobsDiffer old → JobsDiffer new
  landed_differ old new job landings.Foreign answers apart =
      same_differ old new (ap (λ (store : StoreValue P). store.jobs_out) answers.0.2.1)
      (ap (λ (store : StoreValue P). store.jobs_given) answers.0.2.1) apart
  landed_differ old new job landings.Stale answers apart =
      let gone = answers.0.2 in
      less_differ old new gone.0 (slice_get_within old.jobs_out gone.0 gone.1 gone.2.stands)
      (ap (λ (store : StoreValue P). store.jobs_out) gone.3.1) (ap (λ (store : StoreValue P). store.jobs_given) gone.3.1) apart
  landed_differ old new job landings.Taken answers apart =
      let gone = answers.0.2 in
      less_differ old new gone.0 (slice_get_within old.jobs_out gone.0 gone.1 gone.2.stands)
      (ap (λ (store : StoreValue P). store.jobs_out) gone.3.4) (ap (λ (store : StoreValue P). store.jobs_given) gone.3.4) apart

-- after a seat edits
pub seat_differ : (old new : Machine Picture) (edit : Edit) (answer : Result Receipt EditRefused)
    → AnswersEditIn old edit answer new → JobsDiffer old → JobsDiffer new
seat_differ old new edit answer (inl edits) apart = edited_differ old new edit answer edits apart
seat_differ old new edit answer (inr stays) apart =
    same_differ old new (ap (λ (machine : Machine Picture). machine.jobs_out) stays.1)
    (ap (λ (machine : Machine Picture). machine.jobs) stays.1) apart

-- after a seat drops a picture
pub dropped_differ : (old new : Machine Picture) (id : ℕ) (answer : Result Dropping AllocError)
    → AnswersDropIn old id answer new → JobsDiffer old → JobsDiffer new
dropped_differ old new id (Ok dropping.Dropped) answers apart =
    same_differ old new (ap (λ (store : StoreValue Picture). store.jobs_out) answers.1.2.6)
    (ap (λ (store : StoreValue Picture). store.jobs_given) answers.1.2.6) apart
dropped_differ old new id (Ok dropping.NotHeld) answers apart =
    same_differ old new (ap (λ (store : StoreValue Picture). store.jobs_out) answers.2.1)
    (ap (λ (store : StoreValue Picture). store.jobs_given) answers.2.1) apart
dropped_differ old new id (Ok dropping.NoSuchUnit) answers apart =
    same_differ old new (ap (λ (machine : Machine Picture). machine.jobs_out) answers.1)
    (ap (λ (machine : Machine Picture). machine.jobs) answers.1) apart
dropped_differ old new id (Err wanted) answers apart =
    same_differ old new (ap (λ (machine : Machine Picture). machine.jobs_out) answers)
    (ap (λ (machine : Machine Picture). machine.jobs) answers) apart
