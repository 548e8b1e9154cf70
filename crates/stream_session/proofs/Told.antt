-- The unit of a job that is taken.
use Rattle.std.proofs.Common.{◌≡◌, ℕ, ◌<◌, List, [], ◌∷◌, ◌++◌, length, get_or, take, Option, None, Some, refl, ap, sym, ◌∙◌, subst, arith}
use Rattle.std.specs.Prelude.{slice_get, slice_index_or, All, Contains, IfSome, Ok}
use Rattle.std.specs.List.{zip}
use Rattle.std.proofs.lemmas.List.Elements.{Contains-push}
use Rattle.std.proofs.lemmas.Option.{slice_get_read}
use Rattle.unit_outcomes.specs.declared.outcome.Outcome.{Outcome}
use Rattle.unit_outcomes.specs.declared.outcome.Outcome.TheVariants as outcomes
use Rattle.request_core.specs.Fold.{outcomes_of}
use Rattle.decode_jobs.specs.Jobs.{JobValue}
use Rattle.decode_jobs.specs.Keys.{Key}
use Rattle.picture_keys.specs.Known.{Known, key_of, key_of_outcome, known_with, known_after, keys_after, keys_of}
use Rattle.picture_store.specs.Stores.{OutValue, StoreValue}
use Rattle.picture_store.specs.Jobs.{IsDue, Takes}
use Rattle.stream_edits.specs.Streams.{Stream, ids_of}
use Rattle.stream_session.specs.Stored.{History, machine_of}
use Rattle.stream_session.specs.Showing.{keys_in}
use Rattle.stream_session.specs.Jobs.{IsFirstWith, AnswersTakeWithUnit}
use Rattle.stream_session.proofs.Pictured.{IsStoreOf, take_seen}

-- a unit between those before it and those after it has the key that those before it say
key_between : (known : Known) (before : List (ℕ × Outcome)) (unit : ℕ × Outcome) (after : List (ℕ × Outcome))
    → slice_get (keys_after known (before ++ unit ∷ after)) (length before)
    ≡ Some (key_of_outcome (known_after known before) unit.1)
key_between known [] unit after = refl
key_between known (first ∷ before) unit after =
    key_between (known_with known first.0 (key_of_outcome known first.1)) before unit after

-- and those before it have the keys that they have alone
keys_before : (known : Known) (before after : List (ℕ × Outcome))
    → take (length before) (keys_after known (before ++ after)) ≡ keys_after known before
keys_before known [] after = refl
keys_before known (first ∷ before) after =
    ap (λ (keys : List (Option Key)). key_of_outcome known first.1 ∷ keys)
    (keys_before (known_with known first.0 (key_of_outcome known first.1)) before after)

-- the unit at a place among those with their outcomes is within those with ids
pub within_ids : (ids : List ℕ) (became : List Outcome) (before : List (ℕ × Outcome)) (unit : ℕ × Outcome) (after : List (ℕ × Outcome))
    → zip ids became ≡ before ++ unit ∷ after → length before < length ids
within_ids [] became [] unit after same = absurd (cc)
within_ids [] became (first ∷ before) unit after same = absurd (cc)
within_ids (id ∷ ids) [] [] unit after same = absurd (cc)
within_ids (id ∷ ids) [] (first ∷ before) unit after same = absurd (cc)
within_ids (id ∷ ids) (outcome ∷ became) [] unit after same = omega arith
within_ids (id ∷ ids) (outcome ∷ became) (first ∷ before) unit after same =
    let rest : zip ids became ≡ before ++ unit ∷ after = cc in
    let within = within_ids ids became before unit after rest in
    omega (arith, within)

module _ {P : Type 0} where
  -- a key that is due isn't that of a unit before which no key is due
  not_this : (store : StoreValue P) (key : Key) (other : Option Key) → IsDue store key
      → IfSome other (λ k. IsDue store k → ⊥) → other ≡ Some key → ⊥
  not_this store key None due none same = cc
  not_this store key (Some other) due none same =
      let is : other ≡ key = cc in
      none (subst (IsDue store) (sym is) due)

-- the id that is read at a place
pub id_read : (stream : Stream) (at place id : ℕ) → at ≡ place → at < length (ids_of stream)
    → id ≡ get_or (ids_of stream) at id → slice_get (ids_of stream) place ≡ Some id
id_read stream at place id same within read =
    subst (λ n. slice_get (ids_of stream) n ≡ Some id) same
    (slice_get_read (ids_of stream) (length (ids_of stream)) at id refl within read)

module _ {P : Type 0} {IsOf : Key → P → Type 0} where
  module _ (stream : Stream) (old : StoreValue P) (is : IsStoreOf stream old) (job : JobValue P) (new : StoreValue P) (takes : Takes IsOf old job new) where
    -- the job's key
    abbrev key : Key
    key = key_of (known_after [] takes.gives.before) takes.gives.plan.requests

    -- the job's unit
    abbrev unit : ℕ × Outcome
    unit = (takes.gives.id, outcomes.Plan takes.gives.plan)

    -- its place is one of the stream's
    pub within_stream : length takes.gives.before < length (ids_of stream)
    within_stream =
        subst (λ (ids : List ℕ). length takes.gives.before < length ids) is.identified
        (within_ids old.ids old.outcomes takes.gives.before unit takes.gives.after takes.gives.stands)

    -- the keys of the stream
    keys_same : keys_in stream ≡ keys_of (takes.gives.before ++ unit ∷ takes.gives.after)
    keys_same =
        ap (λ (ids : List ℕ). keys_of (zip ids (outcomes_of stream))) (sym is.identified)
        ∙ (ap (λ (became : List Outcome). keys_of (zip old.ids became)) (sym is.folded)
        ∙ ap (λ (units : List (ℕ × Outcome)). keys_of units) takes.gives.stands)

    -- it is the first with the job's key
    pub first_with : (id : ℕ) → slice_get (ids_of stream) (length takes.gives.before) ≡ Some id → IsFirstWith stream key id
    first_with id stands = record {
      at = length takes.gives.before;
      stands = stands;
      has =
          ap (λ (keys : List (Option Key)). slice_get keys (length takes.gives.before)) keys_same
          ∙ key_between [] takes.gives.before unit takes.gives.after;
      first =
          subst (λ (keys : List (Option Key)). All (λ other. other ≡ Some key → ⊥) (take (length takes.gives.before) keys)) (sym keys_same)
          (subst (All (λ other. other ≡ Some key → ⊥)) (sym (keys_before [] takes.gives.before (unit ∷ takes.gives.after)))
          (λ k d within. not_this old key (slice_index_or (keys_of takes.gives.before) k d) takes.gives.due (takes.earliest k d within)));
    }

    -- the job goes out, and its unit is told
    pub told_seen : (history : History) (given : ℕ) (id : ℕ) → slice_get (ids_of stream) (length takes.gives.before) ≡ Some id
        → AnswersTakeWithUnit IsOf (machine_of history (record { ids_given = given; stream = stream }) old) (Ok (Some (id, job)))
        (machine_of history (record { ids_given = given; stream = stream }) new)
    told_seen history given id stands = (
      take_seen IsOf history (record { ids_given = given; stream = stream }) old new is (Ok (Some job)) takes,
      (
        record { number = job.number; key = key; input = job.input },
        subst (λ (out : List (OutValue P)). Contains out (record { number = job.number; key = key; input = job.input }))
            (sym (ap (λ (store : StoreValue P). store.jobs_out) takes.gives.new_is))
            (Contains-push old.jobs_out (record { number = job.number; key = key; input = job.input })),
        refl,
        first_with id stands,
      ),
    )
