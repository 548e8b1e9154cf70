-- What a unit waits for while jobs for it are taken and land.
use Rattle.std.proofs.Common.{◌≡◌, ◌∙◌, ℕ, zero, suc, ◌+◌, List, [], ◌∷◌, ◌++◌, map, remove, refl, sym, ap, subst, inl, inr}
use Rattle.std.specs.Prelude.{Contains, slice_get, Option, Some, None, Result, Ok, Err}
use Rattle.std.specs.List.{zip}
use Rattle.std.proofs.lemmas.List.Elements.{All-contains, Contains-push_cases}
use Rattle.stand_in_device.specs.Jobs.{JobValue}
use Rattle.decode_jobs.specs.Keys.{Key}
use Rattle.picture_keys.specs.Known.{keys_of}
use Rattle.held_pictures.specs.Needed.{IsNeeded}
use Rattle.held_pictures.proofs.Closing.{needed_more}
use Rattle.held_pictures.proofs.Members.{among_map, among_source, first_or_among, there, here}
use Rattle.picture_store.proofs.Waiting.{never_stuck}
use Rattle.picture_store.specs.declared.answers.Landing.{Landing}
use Rattle.picture_store.specs.declared.answers.Landing.TheVariants as landing
use Rattle.picture_store.specs.declared.answers.TakeRefused.{TakeRefused}
use Rattle.picture_store.specs.Pending.{IsNeededBy, IsPending}
use Rattle.picture_store.specs.Showing.{HasKey}
use Rattle.stand_in_session.specs.Machines.{OutValue, StoreValue, Machine}
use Rattle.picture_store.specs.Stores.{units_of}
use Rattle.stream_edits.specs.Edits.{Register}
use Rattle.stream_edits.specs.Streams.{ids_of, place_of}
use Rattle.request_core.specs.Fold.{outcomes_of}
use Rattle.stand_in_session.specs.declared.replies.NotOut.{NotOut}
use Rattle.stand_in_session.specs.declared.replies.TakenJob.{TakenJob}
use Rattle.stand_in_session.specs.declared.commands.Command.TheVariants as told
use Rattle.stream_session.specs.Machines.{store_of}
use Rattle.stand_in_session.specs.Needing.{TakesFor, AnswersTakeWithUnitFor}
use Rattle.stream_session.specs.Needing.{IsAnyOutFor, IsPendingIn}
use Rattle.stand_in_session.specs.Runs.{LandsJob, TakesJob, TakesJobFor}
use Rattle.stream_session.specs.Taken.{as_taken, taken_of}
use Rattle.stream_session.proofs.ByNumber.{none_taken}
use Rattle.script_run.specs.Settling.{Lands, Settles, Takes}

-- the keys of the jobs that are out
abbrev pub keys_out : Machine → List Key
keys_out machine = map (λ (job : OutValue). job.key) machine.jobs_out

-- from one state to the other the stream stays, no picture goes, and no key is out that wasn't
pub record Eases (old new : Machine) : Type 0 where
  pub stream : new.register ≡ old.register
  pub held : (key : Key) → Contains old.held key → Contains new.held key
  pub out : (key : Key) → Contains (keys_out new) key → Contains (keys_out old) key

module _ (old new : Machine) (eases : Eases old new) where
  key_before : (at : ℕ) (key : Key) → HasKey (store_of new) at key → HasKey (store_of old) at key
  key_before at key has =
      subst (λ (r : Register). slice_get (keys_of (zip (ids_of r.stream) (outcomes_of r.stream))) at ≡ Some (Some key))
      eases.stream has

  -- what is pending was pending before
  pending_before : (at : ℕ) → IsPending (store_of new) at → IsPending (store_of old) at
  pending_before at pending =
      (pending.0, key_before at pending.0 pending.1, λ held. pending.2 (eases.held pending.0 held))

  -- what is needed was needed before
  needed_before : (target at : ℕ) → IsNeededBy (store_of new) target at → IsNeededBy (store_of old) target at
  needed_before target at needed =
      needed_more (units_of (store_of old)) (IsPending (store_of new)) (IsPending (store_of old)) target pending_before at
      (subst (λ (r : Register). IsNeeded (zip (ids_of r.stream) (outcomes_of r.stream)) (IsPending (store_of new)) target at)
      eases.stream needed)

  -- a needed key that is out was out and needed before
  pub out_before : (id : ℕ) → IsAnyOutFor new id → IsAnyOutFor old id
  out_before id waits =
      let by = waits.2 in
      let out = by.2 in (
        waits.0,
        subst (λ (r : Register). place_of r.stream id ≡ Some waits.0) eases.stream waits.1,
        (by.0, needed_before waits.0 by.0 by.1, (out.0, key_before by.0 out.0 out.1, eases.out out.0 out.2)),
      )

-- a job more is out, of this number
record HasOneMore (old : Machine) (number : ℕ) (new : Machine) : Type 0 where
  stream : new.register ≡ old.register
  held : new.held ≡ old.held
  more : OutValue
  number_is : more.number ≡ number
  out : new.jobs_out ≡ old.jobs_out ++ more ∷ []
  given : new.jobs ≡ old.jobs + 1

takes_one : (old : Machine) (unit : Option ℕ) (job : TakenJob) (new : Machine) → Takes unit old (Some job) new
    → HasOneMore old job.number new
takes_one old None job new took =
    let answered : ◌≡◌ {A = Result (Option TakenJob) TakeRefused} took.0 (Ok (Some job)) = cc in
    let is = subst (λ (a : Result (Option TakenJob) TakeRefused). TakesJob old a new) answered took.2 in
    let takes = is.2.0 in
    record {
      stream = is.2.1.1;
      held = ap (λ (s : StoreValue). s.held) takes.gives.new_is;
      more = _;
      number_is = is.1;
      out = ap (λ (s : StoreValue). s.jobs_out) takes.gives.new_is;
      given = ap (λ (s : StoreValue). s.jobs_given) takes.gives.new_is ∙ takes.gives.number_is;
    }
takes_one old (Some id) job new took =
    let answered : ◌≡◌ {A = Result (Option TakenJob) TakeRefused} took.0 (Ok (Some job)) = cc in
    let is = subst (λ (a : Result (Option TakenJob) TakeRefused). TakesJobFor old id a new) answered took.2 in
    let takes : TakesFor old id job.unit is.0 new = is.2 in
    let gives = takes.takes.gives in
    record {
      stream = takes.stream.1;
      held = ap (λ (s : StoreValue). s.held) gives.new_is;
      more = _;
      number_is = is.1;
      out = ap (λ (s : StoreValue). s.jobs_out) gives.new_is;
      given = ap (λ (s : StoreValue). s.jobs_given) gives.new_is ∙ gives.number_is;
    }

-- the stream stays, no picture goes, and no job comes
record HasNoMore (old new : Machine) : Type 0 where
  stream : new.register ≡ old.register
  held : (key : Key) → Contains old.held key → Contains new.held key
  out : (job : OutValue) → Contains new.jobs_out job → Contains old.jobs_out job
  given : new.jobs ≡ old.jobs

-- what is left of a list without one of its items was in it
remove_among : {X : Type 0} (xs : List X) (at : ℕ) (x : X) → Contains (remove xs at) x → Contains xs x
remove_among [] zero x is = is
remove_among [] (suc at) x is = is
remove_among (first ∷ xs) zero x is = there first x xs is
remove_among (first ∷ xs) (suc at) x is =
    elim (first_or_among first x (remove xs at) is) [
      | inl same ↦ subst (λ y. Contains (first ∷ xs) y) same (here first xs)
      | inr later ↦ there first x xs (remove_among xs at x later)
    ]

lands_no_more : (old : Machine) (number : ℕ) (answer : Result Landing NotOut) (new : Machine)
    → LandsJob old number answer new → HasNoMore old new
lands_no_more old number (Err none) new is =
    subst (λ (m : Machine). HasNoMore old m) (sym is.1)
    (record { stream = refl; held = λ key held. held; out = λ job out. out; given = refl })
lands_no_more old number (Ok landing.Foreign) new is =
    let lands = is.2.0.2 in
    record {
      stream = is.2.1.1;
      held = λ key held. subst (λ (s : StoreValue). Contains s.held key) (sym lands.1) held;
      out = λ job out. subst (λ (s : StoreValue). Contains s.jobs_out job) lands.1 out;
      given = ap (λ (s : StoreValue). s.jobs_given) lands.1;
    }
lands_no_more old number (Ok landing.Stale) new is =
    let lands = is.2.0.2 in
    record {
      stream = is.2.1.1;
      held = λ key held. subst (λ (s : StoreValue). Contains s.held key) (sym lands.3.1) held;
      out = λ job out.
          remove_among old.jobs_out lands.0 job (subst (λ (s : StoreValue). Contains s.jobs_out job) lands.3.1 out);
      given = ap (λ (s : StoreValue). s.jobs_given) lands.3.1;
    }
lands_no_more old number (Ok landing.Taken) new is =
    let lands = is.2.0.2 in
    record {
      stream = is.2.1.1;
      held = λ key held. (lands.3.2 key).1 (inl held);
      out = λ job out.
          remove_among old.jobs_out lands.0 job (subst (λ (s : StoreValue). Contains s.jobs_out job) lands.3.4 out);
      given = ap (λ (s : StoreValue). s.jobs_given) lands.3.4;
    }

-- a job that is taken and lands is one more that was given
pub lands_given : (unit : Option ℕ) (old : Machine) (job : TakenJob) (new : Machine) → Lands unit old job new
    → new.jobs ≡ old.jobs + 1
lands_given unit old job new lands =
    let none_more = lands_no_more lands.0 job.number lands.3.0 new lands.3.2 in
    none_more.given ∙ (takes_one old unit job lands.0 lands.2).given

-- a job that is taken and lands, and is out no more
pub lands_eases : (old : Machine) (unit : Option ℕ) (job : TakenJob) (new : Machine) → Lands unit old job new → Eases old new
lands_eases old unit job new lands =
    let between : Machine = lands.0 in
    let one = takes_one old unit job between lands.2 in
    let none_more = lands_no_more between job.number lands.3.0 new lands.3.2 in
    let gone = All-contains (λ (it : JobValue). it.number ≡ job.number → ⊥) (taken_of new) in
    record {
      stream = none_more.stream ∙ one.stream;
      held = λ key held. none_more.held key (subst (λ (l : List Key). Contains l key) (sym one.held) held);
      out = λ key out.
          let source = among_source (λ (it : OutValue). it.key) new.jobs_out key out in
          let was : Contains (old.jobs_out ++ one.more ∷ []) source.0 =
          subst (λ (l : List OutValue). Contains l source.0) one.out (none_more.out source.0 source.1) in
          elim (Contains-push_cases old.jobs_out one.more source.0 was) [
            | inl there ↦
                subst (Contains (keys_out old)) source.2 (among_map (λ (it : OutValue). it.key) old.jobs_out source.0 there)
            | inr last ↦
                absurd (gone (as_taken source.0) (none_taken (taken_of new) job.number lands.4)
                (among_map as_taken new.jobs_out source.0 source.1)
                (ap (λ (it : OutValue). it.number) (sym last) ∙ one.number_is))
          ];
    }

-- where no needed unit's key is out, and none is due, the unit isn't pending
not_pending : (old : Machine) (id : ℕ) (new : Machine) → AnswersTakeWithUnitFor old id (Ok None) new
    → (IsAnyOutFor old id → ⊥) → IsPendingIn new id → ⊥
not_pending old id new told none_out waits =
    let pending : IsPendingIn old id = subst (λ (m : Machine). IsPendingIn m id) told.1 waits in
    never_stuck (store_of old) pending.0 (record {
      pending = pending.2;
      none_due = λ due. told.0 (pending.0, pending.1, due);
      none_out = λ out. none_out (pending.0, pending.1, out);
    })

-- where no needed unit's key is out, and all jobs for a unit land that can be taken, it isn't
-- pending
pub settled_there : (old : Machine) (id : ℕ) (jobs : List TakenJob) (new : Machine) → Settles (Some id) old jobs new
    → (IsAnyOutFor old id → ⊥) → IsPendingIn new id → ⊥
settled_there old id [] new settles none_out =
    let answered : ◌≡◌ {A = Result (Option TakenJob) TakeRefused} settles.0 (Ok None) = cc in
    not_pending old id new
    (subst (λ (a : Result (Option TakenJob) TakeRefused). TakesJobFor old id a new) answered settles.2) none_out
settled_there old id (job ∷ jobs) new settles none_out =
    settled_there settles.0 id jobs new settles.2
    (λ out. none_out (out_before old settles.0 (lands_eases old (Some id) job settles.0 settles.1) id out))
