-- The pictures of a session are those that it stores.
use Rattle.std.proofs.Common.{◌≡◌, ℕ, zero, suc, List, [], ◌∷◌, length, Option, None, Some, ap, sym, ◌∙◌, subst, arith, refl}
use Rattle.std.specs.Prelude.{slice_get, Result, Ok, Err}
use Rattle.std.specs.List.{zip}
use Rattle.unit_outcomes.specs.declared.outcome.Outcome.{Outcome}
use Rattle.unit_outcomes.specs.declared.outcome.Outcome.TheVariants as outcomes
use Rattle.unit_outcomes.specs.declared.outcome.Plan.{Plan}
use Rattle.request_core.specs.Fold.{outcomes_of}
use Rattle.decode_jobs.specs.Inputs.{InputValue}
use Rattle.decode_jobs.specs.Jobs.{JobValue}
use Rattle.decode_jobs.specs.Keys.{Key}
use Rattle.picture_keys.specs.Known.{Known, key_of_outcome, known_with, keys_after}
use Rattle.picture_store.specs.declared.answers.TakeRefused.{TakeRefused}
use Rattle.picture_store.specs.declared.answers.TakeRefused.TheVariants.{JobsSpent, Memory}
use Rattle.picture_store.specs.declared.answers.Landing.{Landing}
use Rattle.picture_store.specs.declared.answers.Landing.TheVariants as landings
use Rattle.picture_store.specs.declared.answers.Returning.{Returning}
use Rattle.picture_store.specs.declared.answers.Returning.TheVariants as returnings
use Rattle.picture_store.specs.Stores.{StoreValue}
use Rattle.picture_store.specs.Changes.{RefitsLosing}
use Rattle.picture_store.specs.Jobs as pictures
use Rattle.stream_edits.specs.Streams.{Stream, ids_of}
use Rattle.stream_edits.specs.Edits.{Register}
use Rattle.stream_session.specs.Machines.{store_of, RefitsTo}
use Rattle.stream_session.specs.Stored.{History, IsSound, machine_of}
use Rattle.stream_session.specs.Jobs.{AnswersTake, AnswersLand, AnswersLandOf, AnswersGiveBack, AnswersGiveBackOf}

module _ {P : Type 0} where
  -- what is stored of a stream is of that stream
  pub record IsStoreOf (stream : Stream) (store : StoreValue P) : Type 0 where
    pub identified : store.ids ≡ ids_of stream
    pub folded : store.outcomes ≡ outcomes_of stream

  -- what is kept is of the stream
  pub IsStoreOf-kept : (history : History) (register : Register) (store : StoreValue P)
      → IsSound history register store → IsStoreOf register.stream store
  IsStoreOf-kept history register store kept = record { identified = kept.identified; folded = kept.folded }

  -- what contracts see of the pictures is what is stored
  pub store_is : (history : History) (register : Register) (store : StoreValue P) → IsStoreOf register.stream store
      → store_of (machine_of history register store) ≡ store
  store_is history register store is =
      ap (λ (ids : List ℕ). record store { ids = ids; outcomes = outcomes_of register.stream }) (sym is.identified)
      ∙ ap (λ (outcomes : List Outcome). record store { outcomes = outcomes }) (sym is.folded)

  -- what holds of stores holds of what contracts see of them
  pub both_seen : (Holds : StoreValue P → StoreValue P → Type 0) (history edited : History) (old new : Register) (before after : StoreValue P)
      → IsStoreOf old.stream before → IsStoreOf new.stream after → Holds before after
      → Holds (store_of (machine_of history old before)) (store_of (machine_of edited new after))
  both_seen Holds history edited old new before after was is holds =
      subst (λ (store : StoreValue P). Holds store (store_of (machine_of edited new after))) (sym (store_is history old before was))
      (subst (λ (store : StoreValue P). Holds before store) (sym (store_is edited new after is)) holds)

  -- what holds of a store holds of what contracts see of it
  pub one_seen : (Holds : StoreValue P → Type 0) (history : History) (register : Register) (store : StoreValue P)
      → IsStoreOf register.stream store → Holds store → Holds (store_of (machine_of history register store))
  one_seen Holds history register store is holds = subst Holds (sym (store_is history register store is)) holds

  -- the pictures after an edit, and how many are lost
  pub RefitsTo-stored : (history : History) (old : Register) (store : StoreValue P) (edited : History) (new : Register) (ids : List ℕ) (outcomes : List Outcome) (after : StoreValue P) (lost : ℕ)
      → IsStoreOf old.stream store → ids ≡ ids_of new.stream → outcomes ≡ outcomes_of new.stream → RefitsLosing store ids outcomes lost after
      → (refits : RefitsTo (store_of (machine_of history old store)) new.stream (store_of (machine_of edited new after)))
      × (refits.lost ≡ lost)
  RefitsTo-stored history old store edited new ids outcomes after lost is ids_are outcomes_are losing =
      both_seen (λ (before after : StoreValue P). (refits : RefitsTo before new.stream after) × (refits.lost ≡ lost)) history edited old new
      store after is
      (record { identified = losing.0.ids_are ∙ ids_are; folded = losing.0.outcomes_are ∙ outcomes_are })
      (subst (λ (other : List ℕ). RefitsLosing store other (outcomes_of new.stream) lost after) ids_are
      (subst (λ (other : List Outcome). RefitsLosing store ids other lost after) outcomes_are losing))

  -- the units stay
  pub record UnitsStay (old new : StoreValue P) : Type 0 where
    pub ids_stay : new.ids ≡ old.ids
    pub outcomes_stay : new.outcomes ≡ old.outcomes

  -- where one store is the other but for its pictures
  pub same_units : (old new other : StoreValue P) → new ≡ other → other.ids ≡ old.ids → other.outcomes ≡ old.outcomes → UnitsStay old new
  same_units old new other same ids outcomes = record {
    ids_stay = ap (λ (store : StoreValue P). store.ids) same ∙ ids;
    outcomes_stay = ap (λ (store : StoreValue P). store.outcomes) same ∙ outcomes;
  }

module _ {P : Type 0} (IsOf : Key → P → Type 0) where
  -- where a job is taken
  pub UnitsStay-take : (old : StoreValue P) (answer : Result (Option (JobValue P)) TakeRefused) (new : StoreValue P)
      → pictures.AnswersTake IsOf old answer new → UnitsStay old new
  UnitsStay-take old (Ok (Some job)) new takes = same_units old new _ takes.gives.new_is refl refl
  UnitsStay-take old (Ok None) new is = same_units old new old is.1 refl refl
  UnitsStay-take old (Err JobsSpent) new is = same_units old new old is.2 refl refl
  UnitsStay-take old (Err Memory) new is = same_units old new old is.2 refl refl

module _ {P : Type 0} where
  -- where a picture of the job of a number lands
  pub UnitsStay-land_of : (old : StoreValue P) (number : ℕ) (picture : P) (answer : Landing) (new : StoreValue P)
      → pictures.AnswersLandOf old number picture answer new → UnitsStay old new
  UnitsStay-land_of old number picture landings.Foreign new is = same_units old new old is.1 refl refl
  UnitsStay-land_of old number picture landings.Stale new is = same_units old new _ is.4.1 refl refl
  UnitsStay-land_of old number picture landings.Taken new is = same_units old new _ is.4.4 refl refl

  -- where a job is given back
  pub UnitsStay-give_back : (old : StoreValue P) (job : JobValue P) (answer : Returning) (new : StoreValue P)
      → pictures.AnswersGiveBack old job answer new → UnitsStay old new
  UnitsStay-give_back old job returnings.Foreign new is = same_units old new old is.1 refl refl
  UnitsStay-give_back old job returnings.Returned new is = same_units old new _ is.3 refl refl

  -- also by its number
  pub UnitsStay-give_back_of : (old : StoreValue P) (number : ℕ) (answer : Returning) (new : StoreValue P)
      → pictures.AnswersGiveBackOf old number answer new → UnitsStay old new
  UnitsStay-give_back_of old number returnings.Foreign new is = same_units old new old is.1 refl refl
  UnitsStay-give_back_of old number returnings.Returned new is = same_units old new _ is.4 refl refl

  -- a store whose units stay is still of the stream
  pub IsStoreOf-stays : (stream : Stream) (old new : StoreValue P) → IsStoreOf stream old → UnitsStay old new → IsStoreOf stream new
  IsStoreOf-stays stream old new is stay = record {
    identified = stay.ids_stay ∙ is.identified;
    folded = stay.outcomes_stay ∙ is.folded;
  }

module _ {P : Type 0} (IsOf : Key → P → Type 0) where
  module _ (history : History) (register : Register) (old new : StoreValue P) (is : IsStoreOf register.stream old) where
    -- a job is taken
    pub take_seen : (answer : Result (Option (JobValue P)) TakeRefused) → pictures.AnswersTake IsOf old answer new
        → AnswersTake IsOf (machine_of history register old) answer (machine_of history register new)
    take_seen answer answers = (
      both_seen (λ (before after : StoreValue P). pictures.AnswersTake IsOf before answer after) history history register register old new is
          (IsStoreOf-stays register.stream old new is (UnitsStay-take IsOf old answer new answers)) answers,
      (refl, refl, refl),
    )

module _ {P : Type 0} where
  module _ (history : History) (register : Register) (old new : StoreValue P) (is : IsStoreOf register.stream old) where
    -- a picture of the job of a number lands
    pub land_of_seen : (number : ℕ) (picture : P) (answer : Landing) → pictures.AnswersLandOf old number picture answer new
        → AnswersLandOf (machine_of history register old) number picture answer (machine_of history register new)
    land_of_seen number picture answer answers = (
      both_seen (λ (before after : StoreValue P). pictures.AnswersLandOf before number picture answer after) history history register register old new is
          (IsStoreOf-stays register.stream old new is (UnitsStay-land_of old number picture answer new answers)) answers,
      (refl, refl, refl),
    )

    -- a job is given back
    pub give_back_seen : (job : JobValue P) (answer : Returning) → pictures.AnswersGiveBack old job answer new
        → AnswersGiveBack (machine_of history register old) job answer (machine_of history register new)
    give_back_seen job answer answers = (
      both_seen (λ (before after : StoreValue P). pictures.AnswersGiveBack before job answer after) history history register register old new is
          (IsStoreOf-stays register.stream old new is (UnitsStay-give_back old job answer new answers)) answers,
      (refl, refl, refl),
    )

    -- also by its number
    pub give_back_of_seen : (number : ℕ) (answer : Returning) → pictures.AnswersGiveBackOf old number answer new
        → AnswersGiveBackOf (machine_of history register old) number answer (machine_of history register new)
    give_back_of_seen number answer answers = (
      both_seen (λ (before after : StoreValue P). pictures.AnswersGiveBackOf before number answer after) history history register register old new is
          (IsStoreOf-stays register.stream old new is (UnitsStay-give_back_of old number answer new answers)) answers,
      (refl, refl, refl),
    )

  -- and is kept
  pub IsSound-stays : (history : History) (register : Register) (old new : StoreValue P)
      → IsSound history register old → UnitsStay old new → IsSound history register new
  IsSound-stays history register old new kept stay = record {
    identified = stay.ids_stay ∙ kept.identified;
    folded = stay.outcomes_stay ∙ kept.folded;
    bounded = kept.bounded;
    based = kept.based;
    replayed = kept.replayed;
  }

module _ {P : Type 0} (IsDecoded : InputValue P → P → Type 0) where
  -- where a result lands
  pub UnitsStay-land : (old : StoreValue P) (job : JobValue P) (answer : Landing) (new : StoreValue P)
      → pictures.AnswersResult IsDecoded old job answer new → UnitsStay old new
  UnitsStay-land old job landings.Foreign new is = same_units old new old is.2.1 refl refl
  UnitsStay-land old job landings.Stale new is = same_units old new _ is.2.3.1 refl refl
  UnitsStay-land old job landings.Taken new is = same_units old new _ is.2.3.4 refl refl

  -- so it is of the session
  pub land_seen : (history : History) (register : Register) (old new : StoreValue P) → IsStoreOf register.stream old
      → (job : JobValue P) (answer : Landing) → pictures.AnswersResult IsDecoded old job answer new
      → AnswersLand IsDecoded (machine_of history register old) job answer (machine_of history register new)
  land_seen history register old new is job answer answers = (
    both_seen (λ (before after : StoreValue P). pictures.AnswersResult IsDecoded before job answer after) history history register register
        old new is (IsStoreOf-stays register.stream old new is (UnitsStay-land old job answer new answers)) answers,
    (refl, refl, refl),
  )

-- a valid unit's picture has a key
pub key_of_plan : (known : Known) (ids : List ℕ) (became : List Outcome) (at : ℕ) (plan : Plan) → length ids ≡ length became
    → slice_get became at ≡ Some (outcomes.Plan plan)
    → (key : Key) × (slice_get (keys_after known (zip ids became)) at ≡ Some (Some key))
key_of_plan known [] [] at plan same stands = absurd (cc)
key_of_plan known [] (outcome ∷ others) at plan same stands = absurd (omega arith)
key_of_plan known (id ∷ ids) [] at plan same stands = absurd (omega arith)
key_of_plan known (id ∷ ids) (outcome ∷ others) zero plan same stands =
    let is : outcome ≡ outcomes.Plan plan = cc in
    (_, ap (λ (other : Outcome). Some (key_of_outcome known other)) is)
key_of_plan known (id ∷ ids) (outcome ∷ others) (suc at) plan same stands =
    key_of_plan (known_with known id (key_of_outcome known outcome)) ids others at plan (omega arith) stands
